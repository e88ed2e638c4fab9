-- What is told along a script that ends with its places is placed and well shown.
use Rattle.std.proofs.Common.{ℕ, ◌≡◌, ◌⊎◌, inl, inr, List, [], ◌∷◌, Option, Some, None, refl, sym, ap, subst, ◌∙◌}
use Rattle.group_types.specs.Dimensions.{Dimensions}
use Rattle.group_types.specs.Shape.{IsShape}
use Rattle.group_types.specs.declared.run.Run.{Run}
use Rattle.group_calls.specs.Turns.{log_of}
use Rattle.group_calls.specs.declared.entry.Entry.{Entry}
use Rattle.group_run.specs.World.{opening}
use Rattle.scenario_run.specs.Course as course
use Rattle.scenario_run.specs.Course.{Ends, Goes, Refused, named_in}
use Rattle.scenario_run.specs.Playing.{Play, PlayNext, next_of, shape_in}
use Rattle.scenario_run.proofs.Following.{named_after}
use Rattle.scenario_run.proofs.Leading.{IsLedTo, led-on, leads-log, opened}
use Rattle.scenario_run.proofs.Running.{line-opens}
use Rattle.run_verify.specs.Checked.{ArePlaced, AreWellShown}
use Rattle.run_verify.specs.Plain.{EndsPlacing}
use Rattle.run_verify.specs.Told.{ToldStep, runs_told, turns_told}
use Rattle.run_verify.specs.declared.step.Step.{Step}
use Rattle.law_transcripts.proofs.PlacedRuns.{are-placed}
use Rattle.law_transcripts.proofs.ShownAlong.{Course, along}
use Rattle.law_transcripts.proofs.ShownLines.{steps_after}
use Rattle.law_transcripts.proofs.Telling.{places_of, steps_along, told_along}
use Rattle.law_transcripts.proofs.Turns.{told_after, turns-along}

-- what is told by a script whose group has this shape
pub record IsWhole (named : Option Play) (steps : List Step) (told : List ToldStep) : Type 0 where
  pub shape : Dimensions
  pub is_named : shape_in named ≡ Some shape
  pub placed : ArePlaced shape (log_of (turns_told told)) (runs_told told)
  pub shown : AreWellShown shape (runs_told told) [] steps told

-- behind the group line
opened-whole : (s : Dimensions) (lines : List (List ℕ)) → IsShape s
    → EndsPlacing (steps_along (Some (record { world = opening s; moment = 0 })) lines)
    → IsWhole (Some (record { world = opening s; moment = 0 })) (steps_along (Some (record { world = opening s; moment = 0 })) lines)
    (told_along (Some (record { world = opening s; moment = 0 })) lines)
opened-whole s lines limits ends = record {
  shape = s;
  is_named = refl;
  placed = subst (λ (rs : List (List (Option Run))). ArePlaced s (log_of (turns_told told)) rs) (sym on.runs)
      (subst (λ (es : List Entry). ArePlaced s es (places_of on.last)) log_is (are-placed s on.last led));
  shown = subst (λ (rs : List (List (Option Run))). AreWellShown s rs [] (steps_along (Some p) lines) told) (sym on.runs) on.shown;
}
  where
    p : Play
    p = record { world = opening s; moment = 0 }

    told : List ToldStep
    told = told_along (Some p) lines

    on : Course s (opening s) (course.turns_of_lines next_of (Some p) lines) (steps_along (Some p) lines) told
    on = along s p lines (opened s limits) ends

    led : IsLedTo s on.last
    led = led-on s (opening s) on.last (course.turns_of_lines next_of (Some p) lines) (opened s limits) on.leads

    log_is : on.last.log ≡ log_of (turns_told told)
    log_is = leads-log (opening s) on.last (course.turns_of_lines next_of (Some p) lines) on.leads ∙ ap log_of (sym (turns-along (Some p) lines))

-- before it
pub whole : (lines : List (List ℕ)) → EndsPlacing (steps_along None lines)
    → IsWhole (named_in next_of None lines) (steps_along None lines) (told_along None lines)
whole [] ends = absurd ends
whole (line ∷ lines) ends = by (next_of None line) refl ends (whole lines) where
  by : (next : PlayNext) → next_of None line ≡ next → EndsPlacing (steps_after None line next lines)
      → (EndsPlacing (steps_along None lines) → IsWhole (named_in next_of None lines) (steps_along None lines) (told_along None lines))
      → IsWhole (named_after next_of next lines) (steps_after None line next lines) (told_after None line next lines)
  by Ends is ends later = absurd ends
  by (Refused cause) is ends later = absurd ends
  by (Goes next turns text) is ends later = either (line-opens line next turns text is).is where
    either : (next ≡ None) ⊎ ((s : Dimensions) × IsShape s × (next ≡ Some (record { world = opening s; moment = 0 })))
        → IsWhole (named_in next_of next lines) (steps_along next lines) (told_along next lines)
    either (inl none) = subst (λ (q : Option Play). IsWhole (named_in next_of q lines) (steps_along q lines) (told_along q lines)) (sym none)
        (later (subst (λ (q : Option Play). EndsPlacing (steps_along q lines)) none ends))
    either (inr (s, limits, some)) = subst (λ (q : Option Play). IsWhole (named_in next_of q lines) (steps_along q lines) (told_along q lines)) (sym some)
        (opened-whole s lines limits (subst (λ (q : Option Play). EndsPlacing (steps_along q lines)) some ends))
