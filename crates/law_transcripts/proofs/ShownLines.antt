-- What a line tells beside its step: as many of one as of the other, runs only where it asks for the places, and
-- bytes only where it shows them.
use Rattle.std.proofs.Common.{ℕ, ◌≡◌, ◌+◌, ◌⊎◌, inl, inr, Bool, true, false, List, [], ◌∷◌, ◌++◌, length, Option, Some}
use Rattle.std.proofs.Common.{None, Result, Ok, Err, if◌then◌else◌, refl, sym, ap, ap₂, subst, ◌∙◌, append-nil}
use Rattle.std.proofs.Common.{append_assoc, arith}
use Rattle.std.proofs.lemmas.List.{length-append}
use Rattle.group_types.specs.Dimensions.{Dimensions}
use Rattle.group_types.specs.declared.process.ProcessId.{ProcessId}
use Rattle.group_types.specs.declared.run.Run.{Run}
use Rattle.group_calls.specs.Turns.{Turn, log_of}
use Rattle.group_calls.specs.declared.entry.Entry.{Entry}
use Rattle.group_calls.specs.declared.event.Event.{Event}
use Rattle.group_calls.specs.declared.event.Event.TheVariants as happens
use Rattle.group_run.specs.Meaning.{is_dead}
use Rattle.group_run.specs.Shown.{held, is_down, stamp_of}
use Rattle.group_run.specs.World.{step, turns_from}
use Rattle.scenario_text.specs.Meaning.{line_meaning}
use Rattle.scenario_text.specs.declared.line.Line.{Line}
use Rattle.scenario_text.specs.declared.line.Line.TheVariants.{Skipped, Ask, Collect, Deliver, Fail, Flush, Trace, Drain, Show, Places}
use Rattle.scenario_text.specs.declared.line.LineFault.{LineFault}
use Rattle.scenario_run.specs.Course.{Ends, Goes, Refused}
use Rattle.scenario_run.specs.Playing.{Play, PlayNext, draining_unless_down, next_of, shape_in}
use Rattle.run_verify.specs.Checked.{AreWellShown, IsWellShown}
use Rattle.run_verify.specs.Plain.{EndsPlacing}
use Rattle.run_verify.specs.Told.{ToldStep, Made, Drained, Shown, Lost, Down, Placed, runs_told_in, runs_told, turns_told_in, turns_told}
use Rattle.run_verify.specs.declared.step.Step.{Step}
use Rattle.run_verify.specs.declared.step.Step.TheVariants.{Make, Deliveries, Look, Placing}
use Rattle.law_transcripts.proofs.Telling.{looked, places_of, steps_along, steps_by, steps_on, told_along, told_by, told_on}
use Rattle.law_transcripts.proofs.Turns.{told_after}

-- ---- as many steps as there is told

lengths-by : (p : Play) (l : Line) → length (steps_by p l) ≡ length (told_by p l)
lengths-by p Skipped = refl
lengths-by p l = refl

lengths-on : (play : Option Play) (l : Result Line LineFault) → length (steps_on play l) ≡ length (told_on play l)
lengths-on None l = refl
lengths-on (Some p) (Err fault) = refl
lengths-on (Some p) (Ok l) = lengths-by p l

-- the steps of a line that does this, and of those behind it
abbrev pub steps_after : Option Play → List ℕ → PlayNext → List (List ℕ) → List Step
steps_after play line next lines = elim next
    [ Goes state turns text ↦ steps_on play (line_meaning (shape_in play) line) ++ steps_along state lines | Ends ↦ [] | Refused cause ↦ [] ]

as-many : (play : Option Play) (lines : List (List ℕ)) → length (steps_along play lines) ≡ length (told_along play lines)
as-many play [] = refl
as-many play (line ∷ lines) = by (next_of play line) (λ q. as-many q lines) where
  by : (next : PlayNext) → ((q : Option Play) → length (steps_along q lines) ≡ length (told_along q lines))
      → length (steps_after play line next lines) ≡ length (told_after play line next lines)
  by Ends later = refl
  by (Refused cause) later = refl
  by (Goes next turns text) later =
      length-append (steps_on play (line_meaning (shape_in play) line)) (steps_along next lines)
      ∙ ap₂ (λ (m n : ℕ). m + n) (lengths-on play (line_meaning (shape_in play) line)) (later next)
      ∙ sym (length-append (told_on play (line_meaning (shape_in play) line)) (told_along next lines))

empty : (told : List ToldStep) → length told ≡ 0 → told ≡ []
empty [] is = refl
empty (x ∷ xs) is = absurd (omega (arith, is))

-- no step, so nothing is told
pub none-told : (play : Option Play) (lines : List (List ℕ)) → steps_along play lines ≡ [] → told_along play lines ≡ []
none-told play lines none = empty (told_along play lines) (sym (as-many play lines) ∙ ap length none)

-- ---- runs

runs-looked : (p : Play) (from : ProcessId) (run : Run) → runs_told_in (looked p.world from run) ≡ []
runs-looked p from run = by (is_down p.world) (is_dead p.world from) where
  by : (down dead : Bool) → runs_told_in (if down then Down else (if dead then Lost else Shown (stamp_of p.world from) (held p.world from run))) ≡ []
  by true dead = refl
  by false true = refl
  by false false = refl

-- a line that tells no runs, and isn't the last where the last step has to ask for them
pub record IsOther (p : Play) (l : Result Line LineFault) : Type 0 where
  pub runs : runs_told (told_on (Some p) l) ≡ []
  pub ends : (steps : List Step) → EndsPlacing (steps_on (Some p) l ++ steps) → EndsPlacing steps

pub places-or-other : (p : Play) (l : Result Line LineFault) → (l ≡ Ok Places) ⊎ IsOther p l
places-or-other p (Ok (Show from run)) = inr
    (record { runs = append-nil (runs_told_in (looked p.world from run)) ∙ runs-looked p from run; ends = λ steps ends. ends })
places-or-other p (Ok Places) = inl refl
places-or-other p l = inr (record { runs = refl; ends = λ steps ends. ends })

pub runs-append : (xs ys : List ToldStep) → runs_told (xs ++ ys) ≡ runs_told xs ++ runs_told ys
runs-append [] ys = refl
runs-append (x ∷ xs) ys = ap (λ (rs : List (List (Option Run))). runs_told_in x ++ rs) (runs-append xs ys)
    ∙ sym (append_assoc (runs_told_in x) (runs_told xs) (runs_told ys))

-- ---- bytes

module _ (s : Dimensions) (runs : List (List (Option Run))) (log : List Entry) (steps : List Step) (more : List ToldStep) where
  none-shown : AreWellShown s runs (log ++ []) steps more → AreWellShown s runs log steps more
  none-shown rest = subst (λ (es : List Entry). AreWellShown s runs es steps more) (append-nil log) rest

  one-shown : (step : Step) (told : ToldStep) → IsWellShown s runs log step told
      → AreWellShown s runs (log ++ log_of (turns_told (told ∷ []))) steps more → AreWellShown s runs log (step ∷ steps) (told ∷ more)
  one-shown step told is rest = (is, subst (λ (ts : List Turn). AreWellShown s runs (log ++ log_of ts) steps more) (append-nil (turns_told_in told)) rest)

  -- what is told for a line is well shown, where a look is, and so is what is told behind it
  pub line-shown : (p : Play) (l : Result Line LineFault)
      → ((from : ProcessId) (run : Run) → l ≡ Ok (Show from run) → IsWellShown s runs log (Look from run) (looked p.world from run))
      → AreWellShown s runs (log ++ log_of (turns_told (told_on (Some p) l))) steps more
      → AreWellShown s runs log (steps_on (Some p) l ++ steps) (told_on (Some p) l ++ more)
  line-shown p (Ok (Ask caller from act)) look rest =
      let e : Event = happens.Ask caller (record { moment = p.moment; act = act }) from in one-shown (Make e) (Made (step p.world e).turn) tt rest
  line-shown p (Ok (Collect caller call from)) look rest = let e : Event = happens.Collect caller call from in
      one-shown (Make e) (Made (step p.world e).turn) tt rest
  line-shown p (Ok (Deliver from to)) look rest = let e : Event = happens.Deliver from to in one-shown (Make e) (Made (step p.world e).turn) tt rest
  line-shown p (Ok (Fail from keep)) look rest = let e : Event = happens.Fail from keep in one-shown (Make e) (Made (step p.world e).turn) tt rest
  line-shown p (Ok (Flush from)) look rest = let e : Event = happens.Flush from in one-shown (Make e) (Made (step p.world e).turn) tt rest
  line-shown p (Ok (Trace caller call d from)) look rest = let e : Event = happens.Trace caller call d from in
      one-shown (Make e) (Made (step p.world e).turn) tt rest
  line-shown p (Ok Drain) look rest = let ts : List Turn =
      turns_from p.world (draining_unless_down p.world) in one-shown Deliveries (Drained ts (length ts)) tt rest
  line-shown p (Ok (Show from run)) look rest = one-shown (Look from run) (looked p.world from run) (look from run refl) rest
  line-shown p (Ok Places) look rest = one-shown Placing (Placed (places_of p.world)) tt rest
  line-shown p l look rest = none-shown rest
