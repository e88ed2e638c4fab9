-- What stays along a run of a group on its machines: entries where they are in its log, and which sets are permitted.
use Rattle.std.proofs.Common.{ℕ, zero, suc, ◌≡◌, ◌<◌, ◌≤◌, ◌==◌, Bool, true, false, List, [], ◌∷◌}
use Rattle.std.proofs.Common.{◌++◌, Some, length, take, refl, sym, ap, subst, ◌∙◌, arith}
use Rattle.std.proofs.lemmas.Bool.{eq-eqb}
use Rattle.std.proofs.lemmas.List.{append-nil, append_assoc, length-append}
use Rattle.std.specs.Prelude.{slice_get}
use Rattle.group_types.specs.Dimensions.{Dimensions}
use Rattle.group_types.specs.Names.{IsProcess}
use Rattle.group_types.specs.declared.process.ProcessId.{ProcessId}
use Rattle.memc_table.specs.Asked.{Asked}
use Rattle.group_calls.specs.Turns.{Turn, log_of}
use Rattle.group_calls.specs.declared.entry.Entry.{Entry}
use Rattle.group_run.specs.World.{World, opening, step, turns_from, turns_of}
use Rattle.law_log.proofs.Turnings.{get-left}
use Rattle.group_wire.specs.Actions.{Action, Begin}
use Rattle.group_wire.specs.Actions.{Hear, Permit}
use Rattle.group_wire.specs.Composed.{AreActions, AreActionsFrom, Composed, Made, composed, composed_from, composed_with, events_of}
use Rattle.group_wire.specs.Composed.{begun_after, made_by, opening_composed}
use Rattle.group_wire.specs.Composition.{machine}
use Rattle.group_wire.specs.Laws.{NoTwoHoldAll}
use Rattle.group_wire.specs.Sets.{IsSubset, Processes, one_or}
use Rattle.group_wire.specs.Sending.{heard_first, words_after}
use Rattle.group_wire.proofs.Barrier.{Barred, barred-step}
use Rattle.group_wire.proofs.Changes.{changed-each}
use Rattle.group_wire.proofs.Extending.{events_in}
use Rattle.group_wire.proofs.Honest.{honest, shape-from}
use Rattle.group_wire.proofs.Compositions.{runs_compose}

-- an entry stands within its list
pub get-below : {X : Type 0} (xs : List X) (i : ℕ) (x : X) → slice_get xs i ≡ Some x → i < length xs
get-below [] i x is = absurd (cc is)
get-below (y ∷ xs) zero x is = omega arith
get-below (y ∷ xs) (suc i) x is = let rest = get-below xs i x is in omega (arith, rest)

-- a run and what comes behind it
pub run-parts : (c : Composed) (actions more : List Action) → AreActionsFrom c (actions ++ more)
    → AreActionsFrom c actions × AreActionsFrom (composed_from c actions) more
run-parts c [] more run = (tt, run)
run-parts c (a ∷ actions) more run = let rest = run-parts (composed_with c a) actions more run.1 in ((run.0, rest.0), rest.1)

pub run-joined : (c : Composed) (actions more : List Action) → composed_from c (actions ++ more) ≡ composed_from (composed_from c actions) more
run-joined c [] more = refl
run-joined c (a ∷ actions) more = run-joined (composed_with c a) actions more

pub run-front : (s : Dimensions) (actions more : List Action) → AreActions s (actions ++ more) → AreActions s actions
run-front s actions more run = (run.0, (run-parts (opening_composed s) actions more run.1).0)

made-grows : (c : Composed) (actions : List Action) → (rest : List Made) × ((composed_from c actions).made ≡ c.made ++ rest)
made-grows c [] = ([], sym (append-nil c.made))
made-grows c (a ∷ actions) = let rest = made-grows (composed_with c a) actions in (made_by c a ++ rest.0, rest.1 ∙ append_assoc c.made (made_by c a) rest.0)

-- the log of more events prolongs that of fewer
logged-more : (w : World) (made more : List Made) → (rest : List Entry)
    × (log_of (turns_from w (events_in (made ++ more))) ≡ log_of (turns_from w (events_in made)) ++ rest)
logged-more w [] more = (log_of (turns_from w (events_in more)), refl)
logged-more w (x ∷ made) more =
    let rest = logged-more (step w x.event).world made more in (
      rest.0,
      ap (λ (l : List Entry). (step w x.event).turn.logged ++ l) rest.1
          ∙ sym (append_assoc (step w x.event).turn.logged (log_of (turns_from (step w x.event).world (events_in made)))
          rest.0),
    )

-- it is what the first turns logged
logged-front : (w : World) (made more : List Made)
    → log_of (take (length made) (turns_from w (events_in (made ++ more)))) ≡ log_of (turns_from w (events_in made))
logged-front w [] more = refl
logged-front w (x ∷ made) more = ap (λ (l : List Entry). (step w x.event).turn.logged ++ l) (logged-front (step w x.event).world made more)

log-rises : (turns : List Turn) (i j : ℕ) → i ≤ j → length (log_of (take i turns)) ≤ length (log_of (take j turns))
log-rises turns zero j low = omega arith
log-rises [] (suc i) j low = omega arith
log-rises (t ∷ turns) (suc i) zero low = absurd (omega (arith, low))
log-rises (t ∷ turns) (suc i) (suc j) low =
    let rest = log-rises turns i j (omega (arith, low)) in
    let one = length-append t.logged (log_of (take i turns)) in
    let two = length-append t.logged (log_of (take j turns)) in omega (arith, rest, one, two)

-- the machine's log is that of the turns of its events
machine-log : (s : Dimensions) (actions : List Action) → AreActions s actions
    → (machine (composed s actions)).log ≡ log_of (turns_of s (events_in (composed s actions).made))
machine-log s actions run =
    (runs_compose s actions run).headline.one_log.kept
    ∙ ap (λ (d : Dimensions). log_of (turns_of d (events_in (composed s actions).made))) (shape-from (opening_composed s) actions)

made-more : (s : Dimensions) (actions more : List Action)
    → (rest : List Made) × ((composed s (actions ++ more)).made ≡ (composed s actions).made ++ rest)
made-more s actions more =
    let rest = made-grows (composed s actions) more in
    (rest.0, ap (λ (d : Composed). d.made) (run-joined (opening_composed s) actions more) ∙ rest.1)

-- the log of a run that goes on grows
pub log-grows : (s : Dimensions) (actions more : List Action) → AreActions s (actions ++ more)
    → (rest : List Entry) × ((machine (composed s (actions ++ more))).log ≡ (machine (composed s actions)).log ++ rest)
log-grows s actions more run =
    let made = made-more s actions more in
    let all = logged-more (opening s) (composed s actions).made made.0 in (
      all.0,
      machine-log s (actions ++ more) run
          ∙ ap (λ (ms : List Made). log_of (turns_of s (events_in ms))) made.1
          ∙ all.1
          ∙ ap (λ (l : List Entry). l ++ all.0) (sym (machine-log s actions (run-front s actions more run))),
    )

pub log-longer : (s : Dimensions) (actions more : List Action) → AreActions s (actions ++ more)
    → length (machine (composed s actions)).log ≤ length (machine (composed s (actions ++ more))).log
log-longer s actions more run =
    let rest = log-grows s actions more run in
    let same = ap (λ (l : List Entry). length l) rest.1 in
    let long = length-append (machine (composed s actions)).log rest.0 in omega (arith, same, long)

pub entry-stays : (s : Dimensions) (actions more : List Action) → AreActions s (actions ++ more) → (place : ℕ) (e : Entry)
    → slice_get (machine (composed s actions)).log place ≡ Some e → slice_get (machine (composed s (actions ++ more))).log place ≡ Some e
entry-stays s actions more run place e is =
    let rest = log-grows s actions more run in
    ap (λ (l : List Entry). slice_get l place) rest.1 ∙ get-left (machine (composed s actions)).log rest.0 place e is

-- how many events there were when a caller's last call began never falls
begun-step : (c : Composed) (a : Action) (n caller : ℕ) → n ≤ c.begun caller → n ≤ length c.made → n ≤ begun_after c a caller
begun-step c (Begin who op) n caller low within = by (caller == who) where
  by : (b : Bool) → n ≤ one_or b (length c.made) (c.begun caller)
  by true = within
  by false = low
begun-step c _ n caller low within = low

begun-rises : (c : Composed) (actions : List Action) (n caller : ℕ) → n ≤ c.begun caller → n ≤ length c.made → n ≤ (composed_from c actions).begun caller
begun-rises c [] n caller low within = low
begun-rises c (a ∷ actions) n caller low within =
    let long = length-append c.made (made_by c a) in
    begun-rises (composed_with c a) actions n caller (begun-step c a n caller low within) (omega (arith, within, long))

begun-here : (c : Composed) (caller : ℕ) (op : Asked) → length c.made ≤ (composed_with c (Begin caller op)).begun caller
begun-here c caller op = by (caller == caller) (eq-self caller) where
  eq-self : (n : ℕ) → (n == n) ≡ true
  eq-self n = eq-eqb n n refl

  by : (b : Bool) → b ≡ true → length c.made ≤ one_or b (length c.made) (c.begun caller)
  by true is = omega arith
  by false is = absurd (cc is)

-- all that the machine had logged when a call began stands before what is logged since
pub logged-before : (s : Dimensions) (actions more : List Action) (caller : ℕ) (op : Asked) → AreActions s (actions ++ Begin caller op ∷ more)
    → length (machine (composed s actions)).log
    ≤ length (log_of (take ((composed s (actions ++ Begin caller op ∷ more)).begun caller)
    (turns_of (composed s (actions ++ Begin caller op ∷ more)).group.shape (events_of (composed s (actions ++ Begin caller op ∷ more))))))
logged-before s actions more caller op run =
    let all = Begin caller op ∷ more in
    let c = composed s (actions ++ all) in
    let early = composed s actions in
    let made = made-more s actions all in
    let begun : length early.made ≤ c.begun caller = subst (λ (d : Composed). length early.made ≤ d.begun caller)
    (sym (run-joined (opening_composed s) actions all))
    (begun-rises (composed_with early (Begin caller op)) more (length early.made) caller (begun-here early caller op)
    (let long = length-append early.made (made_by early (Begin caller op)) in omega (arith, long))) in
    let turns = turns_of c.group.shape (events_of c) in
    let rises = log-rises turns (length early.made) (c.begun caller) begun in
    let same : log_of (take (length early.made) turns) ≡ (machine early).log =
    ap (λ (d : Dimensions). log_of (take (length early.made) (turns_of d (events_of c)))) (shape-from (opening_composed s) (actions ++ all))
    ∙ ap (λ (ms : List Made). log_of (take (length early.made) (turns_of s (events_in ms)))) made.1
    ∙ logged-front (opening s) early.made made.0
    ∙ sym (machine-log s actions (run-front s actions all run)) in
    let long = ap (λ (l : List Entry). length l) same in omega (arith, rises, long)

-- a set that is permitted stays so
permitted-step : (c : Composed) (a : Action) → Barred c.group.shape c.group.words c.failed
    → (p : ProcessId) → IsSubset (c.group.words.permitted p) ((words_after c.group.words a).permitted p)
permitted-step c (Permit q) barred p x is =
    changed-each (λ (r : ProcessId) (set : Processes). c.group.words.permitted r x ≡ true → set x ≡ true)
    c.group.words.permitted q (c.group.words.cut q) (barred.permitted q x)
    (λ r other before. before) p is
permitted-step c (Hear q r) barred p x is = by (c.group.words.said q r) where
  by : (sets : List Processes) → (heard_first q r sets c.group.words).permitted p x ≡ true
  by [] = is
  by (set ∷ sets) = is
permitted-step c _ barred p x is = is

permitted-stays : (c : Composed) (actions : List Action) → Barred c.group.shape c.group.words c.failed → AreActionsFrom c actions
    → (p : ProcessId) → IsSubset (c.group.words.permitted p) ((composed_from c actions).group.words.permitted p)
permitted-stays c [] barred run p x is = is
permitted-stays c (a ∷ actions) barred run p x is =
    permitted-stays (composed_with c a) actions (barred-step c a run.0 barred) run.1 p x (permitted-step c a barred p x is)

-- where no two permitted sets together hold all members, none did before
pub no-two-before : (s : Dimensions) (actions more : List Action) → AreActions s (actions ++ more)
    → NoTwoHoldAll (composed s (actions ++ more)).group → NoTwoHoldAll (composed s actions).group
no-two-before s actions more run apart p q =
    let both = run-parts (opening_composed s) actions more run.1 in
    let early = composed s actions in
    let later : NoTwoHoldAll (composed_from early more).group = subst (λ (d : Composed). NoTwoHoldAll d.group)
    (run-joined (opening_composed s) actions more) apart in
    let found = later p q in
    let barred = (honest s actions (run.0, both.0)).barred in (
      found.0,
      subst (λ (d : Dimensions). IsProcess d found.0) (shape-from early more) found.1,
      lacked (early.group.words.permitted p found.0) ((composed_from early more).group.words.permitted p found.0)
          (permitted-stays early more barred both.1 p found.0) found.2,
      lacked (early.group.words.permitted q found.0) ((composed_from early more).group.words.permitted q found.0)
          (permitted-stays early more barred both.1 q found.0) found.3,
    )
  where
    lacked : (a b : Bool) → (a ≡ true → b ≡ true) → b ≡ false → a ≡ false
    lacked true b on none = cc (on refl, none)
    lacked false b on none = refl
