-- What is known of a sheet of a text whose transcript is checked.
use Rattle.std.proofs.Common.{inl, inr, ◌≡◌, ◌⊎◌, ◌<◌, ◌≤◌, ◌+◌, ◌^◌, ℕ, zero, suc, List, [], ◌∷◌, ◌++◌, ◌∙◌, map, take}
use Rattle.std.proofs.Common.{length, slice_get, Option, Some, refl, sym, ap, subst, arith}
use Rattle.std.proofs.lemmas.Bool.{cases_lt}
use Rattle.std.proofs.lemmas.Bool.Decides.{nat_tests}
use Rattle.std.proofs.lemmas.List.{append-nil, length-append, length-map}
use Rattle.std.proofs.lemmas.List.Elements.{All-append, All-cons, All-head, All-nil, All-tail, All-weaker}
use Rattle.std.specs.Prelude.{All}
use Rattle.group_types.proofs.Lists.{at_behind}
use Rattle.group_types.specs.Dimensions.{Dimensions}
use Rattle.group_types.specs.Lists.{at}
use Rattle.group_types.specs.declared.run.Run.{Run}
use Rattle.memc_table.specs.Contents.{empty_table}
use Rattle.group_calls.specs.Turns.{Turn, asks_in, asks_of, log_of}
use Rattle.group_calls.specs.declared.entry.Entry.{Entry}
use Rattle.group_calls.specs.declared.event.Event.{Event}
use Rattle.group_calls.specs.declared.event.Event.TheVariants as happens
use Rattle.group_run.specs.Causes.{IsDelivery}
use Rattle.scenario_text.specs.Texts.{entry_text}
use Rattle.run_verify.specs.Checked.{ArePlaced, IsChecked}
use Rattle.run_verify.specs.Passing.{IsRunIn}
use Rattle.run_verify.specs.Plain.{EndsPlacing, FitSteps, FitsStep, IsEventInRange}
use Rattle.run_verify.specs.Sheet.{Sheet}
use Rattle.run_verify.specs.Told.{Made, Drained, Shown, Lost, Down, Placed}
use Rattle.run_verify.specs.Told.{CanBeTold, TellAll, ToldStep, drained_line, lines_told, runs_told, told_lines, turns_told, turns_told_in}
use Rattle.run_verify.specs.Updates.{updates_by}
use Rattle.run_verify.specs.declared.step.Step.{Step}
use Rattle.run_verify.specs.declared.step.Step.TheVariants.{Make, Deliveries, Look, Placing}
use Rattle.run_verify.proofs.ExactEntries.{Checks, FitsAsk}
use Rattle.run_verify.proofs.ExactRuns.{run_found}
use Rattle.run_verify.proofs.ExactScript.{FitAll, FitsFully, GoodSheet}
use Rattle.run_verify.proofs.ExactSteps.{updates-few}
use Rattle.run_verify.proofs.ImpliedShadow.{log-append}

-- ---- steps

event-fits : (event : Event) → FitsAsk event → IsEventInRange event
event-fits (happens.Ask caller op p) fits = fits.0
event-fits (happens.Collect caller call p) fits = fits
event-fits (happens.Trace caller call d p) fits = fits
event-fits e fits = tt

step-fits : (s : Dimensions) (step : Step) → FitsFully s step → FitsStep s step
step-fits s (Make event) fits = event-fits event fits
step-fits s (Look p run) fits = fits
step-fits s Deliveries fits = tt
step-fits s Placing fits = tt

pub fit_steps : (s : Dimensions) (steps : List Step) → FitAll s steps → FitSteps s steps
fit_steps s [] fit = tt
fit_steps s (step ∷ steps) (first, fit) = (step-fits s step first, fit_steps s steps fit)

-- ---- turns

abbrev FitsTurn : Turn → Type 0
FitsTurn t = FitsAsk t.event

delivery-fits : (t : Turn) → IsDelivery t.event → FitsTurn t
delivery-fits t is = by t.event is
  where
    by : (event : Event) → IsDelivery event → FitsAsk event
    by (happens.Deliver from to) is = tt
    by event is = absurd is

-- the turns that are told for a step
told-fits : (s : Dimensions) (step : Step) (told : ToldStep) → FitsFully s step → CanBeTold step told → All FitsTurn (turns_told_in told)
told-fits s (Make event) (Made t) fits tells = All-cons FitsTurn t [] (subst FitsAsk (sym tells.0) fits) (All-nil FitsTurn)
told-fits s Deliveries (Drained ts n) fits tells = All-weaker (λ t. IsDelivery t.event) FitsTurn delivery-fits ts tells.0
told-fits s step (Shown stamp bytes) fits tells = All-nil FitsTurn
told-fits s step Lost fits tells = All-nil FitsTurn
told-fits s step Down fits tells = All-nil FitsTurn
told-fits s step (Placed runs) fits tells = All-nil FitsTurn
told-fits s asked told fits tells = absurd tells

turns-fit : (s : Dimensions) (steps : List Step) (told : List ToldStep) → FitAll s steps → TellAll steps told → All FitsTurn (turns_told told)
turns-fit s [] [] fit tells = All-nil FitsTurn
turns-fit s [] (told ∷ more) fit tells = absurd tells
turns-fit s (step ∷ steps) [] fit tells = absurd tells
turns-fit s (step ∷ steps) (told ∷ more) (first, fit) (tell, tells) =
    All-append FitsTurn (turns_told_in told) (turns_told more) (told-fits s step told first tell)
    (turns-fit s steps more fit tells)

all-get : (ts : List Turn) (j : ℕ) (t : Turn) → All FitsTurn ts → slice_get ts j ≡ Some t → FitsTurn t
all-get [] j t all is = cc is
all-get (u ∷ ts) zero t all is = let same : u ≡ t = cc is in subst FitsTurn same (All-head FitsTurn u ts all)
all-get (u ∷ ts) (suc j) t all is = all-get ts j t (All-tail FitsTurn u ts all) is

-- ---- asks

asks-one : (caller : ℕ) (event : Event) → asks_in caller event ≤ 1
asks-one caller (happens.Ask who op p) = grind (arith, nat_tests)
asks-one caller event = omega arith

asks-none : (caller : ℕ) (event : Event) → IsDelivery event → asks_in caller event ≡ 0
asks-none caller (happens.Deliver from to) is = refl
asks-none caller e is = absurd is

drained-none : (caller : ℕ) (ts : List Turn) → All (λ t. IsDelivery t.event) ts → asks_of caller ts ≡ 0
drained-none caller [] all = refl
drained-none caller (t ∷ ts) all =
    let here = asks-none caller t.event (All-head (λ t. IsDelivery t.event) t ts all) in
    let rest = drained-none caller ts (All-tail (λ t. IsDelivery t.event) t ts all) in
    omega (arith, here, rest)

asks-append : (caller : ℕ) (xs ys : List Turn) → asks_of caller (xs ++ ys) ≡ asks_of caller xs + asks_of caller ys
asks-append caller [] ys = omega arith
asks-append caller (x ∷ xs) ys = let rest = asks-append caller xs ys in omega (arith, rest)

asks-told : (caller : ℕ) (step : Step) (told : ToldStep) → CanBeTold step told → asks_of caller (turns_told_in told) ≤ 1
asks-told caller step (Made t) tells = let one = asks-one caller t.event in omega (arith, one)
asks-told caller Deliveries (Drained ts n) tells = let none = drained-none caller ts tells.0 in omega (arith, none)
asks-told caller step (Shown stamp bytes) tells = omega arith
asks-told caller step Lost tells = omega arith
asks-told caller step Down tells = omega arith
asks-told caller step (Placed runs) tells = omega arith
asks-told caller asked told tells = absurd tells

asks-few : (caller : ℕ) (steps : List Step) (told : List ToldStep) → TellAll steps told → asks_of caller (turns_told told) ≤ length steps
asks-few caller [] [] tells = omega arith
asks-few caller [] (told ∷ more) tells = absurd tells
asks-few caller (step ∷ steps) [] tells = absurd tells
asks-few caller (step ∷ steps) (told ∷ more) (tell, tells) =
    let one = asks-told caller step told tell in
    let rest = asks-few caller steps more tells in
    let both = asks-append caller (turns_told_in told) (turns_told more) in
    omega (arith, one, rest, both)

asks-take : (caller j : ℕ) (ts : List Turn) → asks_of caller (take j ts) ≤ asks_of caller ts
asks-take caller zero ts = omega arith
asks-take caller (suc j) [] = omega arith
asks-take caller (suc j) (t ∷ ts) = let rest = asks-take caller j ts in omega (arith, rest)

-- ---- lines

told-long : (told : ToldStep) → length (log_of (turns_told_in told)) ≤ length (told_lines told)
told-long (Made t) = let log = ap length (append-nil t.logged) in omega (arith, log, length-map t.logged entry_text)
told-long (Drained ts n) = omega (arith, length-append (map entry_text (log_of ts)) (drained_line n ∷ []), length-map (log_of ts) entry_text)
told-long told = omega arith

log-long : (told : List ToldStep) → length (log_of (turns_told told)) ≤ length (lines_told told)
log-long [] = omega arith
log-long (told ∷ more) =
    let here = told-long told in
    let rest = log-long more in
    let logs = ap length (log-append (turns_told_in told) (turns_told more)) in
    omega (arith, here, rest, logs, length-append (log_of (turns_told_in told)) (log_of (turns_told more)), length-append (told_lines told) (lines_told more))

-- ---- runs

runs-few : (s : Dimensions) (log : List Entry) (runs : List (List (Option Run))) → ArePlaced s log runs → (j : ℕ) → length (at [] runs j) ≤ length log
runs-few s log runs placed j = by (cases_lt j s.k)
  where
    by : (j < s.k) ⊎ (s.k ≤ j) → length (at [] runs j) ≤ length log
    by (inl below) =
        let updates = updates-few s.k j log (empty_table s.k) (at [] runs j) in
        let many = ap length (sym (placed.numbers j below)) ∙ length-map (updates_by s runs log j) (λ u. u.run) in
        omega (arith, updates, many)
    by (inr above) =
        let partitions = placed.partitions in
        let none = ap length (at_behind [] runs j (omega (arith, partitions, above))) in
        omega (arith, none)

-- ---- all

pub checks_of : (sheet : Sheet) (m : ℕ) → GoodSheet sheet m → m < 2 ^ 32 → EndsPlacing sheet.script.steps
    → (checked : IsChecked sheet.script sheet.lines) → Checks sheet (turns_told checked.told) (runs_told checked.told)
checks_of sheet m good small ends checked = record {
  shape = good.shape;
  legal = checked.legal;
  within = checked.within;
  placed = checked.placed;
  found = λ d len run front back low fits place.
      let most = good.shape.k.1 in
      let many = runs-low d in
      let long = ap length place in
      subst (λ (ls : List (List ℕ)). IsRunIn ls sheet.script.shape d (suc (length front)) len (Some run)) (sym checked.lines)
      (run_found sheet.script.shape d len run (omega (arith, low, most)) fits back sheet.script.steps checked.told front
      ends checked.tells (λ j. let few = runs-low j in omega (arith, few, short-log))
      (omega (arith, many, short-log, long, length-append front (Some run ∷ back))) place);
  fits = λ j t is. all-get (turns_told checked.told) j t (turns-fit sheet.script.shape sheet.script.steps checked.told good.fit checked.tells) is;
  few = λ caller j t name op ask.
      let most = asks-few name.caller sheet.script.steps checked.told checked.tells in
      let first = asks-take name.caller j (turns_told checked.told) in
      let place = ask.place in
      let few = good.few in
      omega (arith, most, first, place, few, small);
  short = omega (arith, short-log);
}
  where
    runs-low : (j : ℕ) → length (at [] (runs_told checked.told) j) ≤ length (log_of (turns_told checked.told))
    runs-low = runs-few sheet.script.shape (log_of (turns_told checked.told)) (runs_told checked.told) checked.placed

    short-log : length (log_of (turns_told checked.told)) < 2 ^ 32
    short-log = let long = log-long checked.told in let lines = ap length checked.lines in let few = good.short in omega (arith, long, lines, few, small)
