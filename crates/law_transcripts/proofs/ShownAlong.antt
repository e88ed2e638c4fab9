-- What is told along a script that ends with its places: the runs of its last group, and bytes as they leave them.
use Rattle.std.proofs.Common.{ℕ, ◌≡◌, ◌<◌, ◌⊎◌, inl, inr, List, [], ◌∷◌, ◌++◌, Option, Some, Result, Ok, refl, sym, ap, subst, ◌∙◌, append-nil}
use Rattle.group_types.specs.Dimensions.{Dimensions}
use Rattle.group_types.specs.Lists.{at}
use Rattle.group_types.specs.declared.process.ProcessId.{ProcessId}
use Rattle.group_types.specs.declared.run.Run.{Run}
use Rattle.group_calls.specs.Turns.{Turn, log_of}
use Rattle.group_calls.specs.declared.entry.Entry.{Entry}
use Rattle.group_run.specs.World.{World}
use Rattle.scenario_text.specs.Meaning.{IsLineOf, line_meaning}
use Rattle.scenario_text.specs.declared.line.Line.{Line}
use Rattle.scenario_text.specs.declared.line.Line.TheVariants.{Show, Places}
use Rattle.scenario_text.specs.declared.line.LineFault.{LineFault}
use Rattle.scenario_text.proofs.Lines.{line_of-within}
use Rattle.scenario_run.specs.Course as course
use Rattle.scenario_run.specs.Course.{Ends, Goes, Refused}
use Rattle.scenario_run.specs.Placing.{placed_text}
use Rattle.scenario_run.specs.Playing.{Play, PlayNext, next_by, next_of}
use Rattle.scenario_run.proofs.Following.{turns_after}
use Rattle.scenario_run.proofs.Leading.{IsLedTo, Leads, leads-log, leads-then, led-on}
use Rattle.scenario_run.proofs.Running.{GoesOn, line-leads, parts}
use Rattle.run_verify.specs.Checked.{AreWellShown, IsWellShown}
use Rattle.run_verify.specs.Plain.{EndsPlacing}
use Rattle.run_verify.specs.Told.{ToldStep, runs_told, turns_told}
use Rattle.run_verify.specs.declared.step.Step.{Step}
use Rattle.run_verify.specs.declared.step.Step.TheVariants.{Look}
use Rattle.law_transcripts.proofs.PlacedGrow.{Begins, leads-grow}
use Rattle.law_transcripts.proofs.PlacedRuns.{at-places}
use Rattle.law_transcripts.proofs.ShownLook.{look-shown}
use Rattle.law_transcripts.proofs.Telling.{looked, places_of, steps_along, steps_on, told_along, told_on}
use Rattle.law_transcripts.proofs.ShownLines.{IsOther, line-shown, none-told, places-or-other, runs-append, steps_after}
use Rattle.law_transcripts.proofs.Turns.{told_after, turns-along, turns-line-told}

-- what is told from a group on, for these steps and turns
pub record Course (s : Dimensions) (w : World) (turns : List Turn) (steps : List Step) (told : List ToldStep) : Type 0 where
  pub last : World
  pub leads : Leads w last turns
  pub runs : runs_told told ≡ places_of last
  pub shown : AreWellShown s (places_of last) w.log steps told

-- for a line that is read so, and for those behind it
abbrev FromLine : Dimensions → Play → List Turn → Option Play → List (List ℕ) → Result Line LineFault → Type 0
FromLine s p turns next lines l = Course s p.world (turns ++ course.turns_of_lines next_of next lines) (steps_on (Some p) l ++ steps_along next lines)
    (told_on (Some p) l ++ told_along next lines)

-- a line that asks for the places is the last that asks something
last-line : (s : Dimensions) (p : Play) (l : Result Line LineFault) (next : Option Play) (turns : List Turn) (text : List ℕ) (lines : List (List ℕ))
    → l ≡ Ok Places → next_by (Some p) l ≡ Goes next turns text → EndsPlacing (steps_on (Some p) l ++ steps_along next lines)
    → FromLine s p turns next lines l
last-line s p l next turns text lines is goes ends = subst (FromLine s p turns next lines) (sym is) (record {
  last = p.world;
  leads = record { events = []; run = tt; turns_are = sym all; to = refl };
  runs = ap (λ (xs : List ToldStep). places_of p.world ++ runs_told xs) silent ∙ append-nil (places_of p.world);
  shown = (tt, subst (λ (xs : List Step). AreWellShown s (places_of p.world) (p.world.log ++ []) xs (told_along next lines)) (sym none) tt);
})
  where
    none : steps_along next lines ≡ []
    none = subst (λ (x : Result Line LineFault). EndsPlacing (steps_on (Some p) x ++ steps_along next lines)) is ends

    silent : told_along next lines ≡ []
    silent = none-told next lines none

    quiet : turns ≡ []
    quiet = let both = parts (Some p) next [] turns (placed_text [] p.world) text
        (subst (λ (x : Result Line LineFault). next_by (Some p) x ≡ Goes next turns text) is goes) in both.1

    all : turns ++ course.turns_of_lines next_of next lines ≡ []
    all = ap (λ (ts : List Turn). ts ++ course.turns_of_lines next_of next lines) quiet ∙ sym (turns-along next lines) ∙ ap turns_told silent

-- a look on the way to a group is well shown with the runs of that group
look-on : (s : Dimensions) (p : Play) (l : Result Line LineFault) (v : World) (turns : List Turn) → IsLedTo s p.world
    → Leads p.world v turns → ((l' : Line) → l ≡ Ok l' → IsLineOf (Some p.world.shape) l')
    → (from : ProcessId) (run : Run) → l ≡ Ok (Show from run) → IsWellShown s (places_of v) p.world.log (Look from run) (looked p.world from run)
look-on s p l v turns led leads within from run is = look-shown s p.world (places_of v) from run led begins (within (Show from run) is).0 where
  begins : (d : ℕ) → d < s.k → Begins (at [] p.world.places d) (at [] (places_of v) d)
  begins d low = subst (Begins (at [] p.world.places d)) (sym (at-places s v d (led-on s p.world v turns led leads) low)) (leads-grow p.world v turns leads d)

-- another line, and what is told behind it
other-line : (s : Dimensions) (p : Play) (l : Result Line LineFault) (v : World) (turns more : List Turn) (steps : List Step)
    (told : List ToldStep) → IsLedTo s p.world → Leads p.world v turns
    → ((l' : Line) → l ≡ Ok l' → IsLineOf (Some p.world.shape) l') → turns_told (told_on (Some p) l) ≡ turns → IsOther p l
    → Course s v more steps told
    → Course s p.world (turns ++ more) (steps_on (Some p) l ++ steps) (told_on (Some p) l ++ told)
other-line s p l v turns more steps told led leads within told_is other rest = record {
  last = rest.last;
  leads = whole;
  runs = runs-append (told_on (Some p) l) told ∙ ap (λ (rs : List (List (Option Run))). rs ++ runs_told told) other.runs ∙ rest.runs;
  shown = line-shown s (places_of rest.last) p.world.log steps told p l (look-on s p l rest.last (turns ++ more) led whole within)
      (subst (λ (es : List Entry). AreWellShown s (places_of rest.last) es steps told) log_is rest.shown);
}
  where
    whole : Leads p.world rest.last (turns ++ more)
    whole = leads-then p.world v rest.last turns more leads rest.leads

    log_is : v.log ≡ p.world.log ++ log_of (turns_told (told_on (Some p) l))
    log_is = leads-log p.world v turns leads ∙ ap (λ (ts : List Turn). p.world.log ++ log_of ts) (sym told_is)

module _ (s : Dimensions) where
  pub along : (p : Play) (lines : List (List ℕ)) → IsLedTo s p.world → EndsPlacing (steps_along (Some p) lines)
      → Course s p.world (course.turns_of_lines next_of (Some p) lines) (steps_along (Some p) lines) (told_along (Some p) lines)
  along p [] led ends = absurd ends
  along p (line ∷ lines) led ends = by (next_of (Some p) line) refl ends (λ q. along q lines) where
    within : (l : Line) → line_meaning (Some p.world.shape) line ≡ Ok l → IsLineOf (Some p.world.shape) l
    within l reads = line_of-within (Some p.world.shape) line l reads

    by : (next : PlayNext) → next_of (Some p) line ≡ next → EndsPlacing (steps_after (Some p) line next lines)
        → ((q : Play) → IsLedTo s q.world → EndsPlacing (steps_along (Some q) lines)
        → Course s q.world (course.turns_of_lines next_of (Some q) lines) (steps_along (Some q) lines) (told_along (Some q) lines))
        → Course s p.world (turns_after next_of next lines) (steps_after (Some p) line next lines) (told_after (Some p) line next lines)
    by Ends is ends later = absurd ends
    by (Refused cause) is ends later = absurd ends
    by (Goes next turns text) is ends later = either (places-or-other p (line_meaning (Some p.world.shape) line)) where
      on : GoesOn p.world next turns
      on = line-leads s p line next turns text led is

      either : (line_meaning (Some p.world.shape) line ≡ Ok Places) ⊎ IsOther p (line_meaning (Some p.world.shape) line)
          → FromLine s p turns next lines (line_meaning (Some p.world.shape) line)
      either (inl places) = last-line s p (line_meaning (Some p.world.shape) line) next turns text lines places is ends
      either (inr other) =
          let rest = later on.play (led-on s p.world on.play.world turns led on.leads)
          (subst (λ (q : Option Play). EndsPlacing (steps_along q lines)) on.is (other.ends (steps_along next lines) ends)) in
          other-line s p (line_meaning (Some p.world.shape) line) on.play.world turns (course.turns_of_lines next_of next lines)
          (steps_along next lines) (told_along next lines) led on.leads within (turns-line-told (Some p) line next turns text is) other
          (subst (λ (q : Option Play). Course s on.play.world (course.turns_of_lines next_of q lines) (steps_along q lines) (told_along q lines))
          (sym on.is) rest)
