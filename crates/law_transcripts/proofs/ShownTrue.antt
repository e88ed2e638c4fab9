-- What a script tells whose group keeps its promises, and that ends with its places: a legal log, replies within their
-- time, runs that are apart, and bytes as they were written.
use Rattle.std.proofs.Common.{ℕ, ◌≡◌, List, [], Some, None, sym, subst, ◌∙◌}
use Rattle.group_types.specs.Dimensions.{Dimensions}
use Rattle.group_calls.specs.Log.{IsLegal}
use Rattle.group_calls.specs.Turns.{log_of}
use Rattle.law_moves.proofs.Reading.{some-same}
use Rattle.scenario_run.specs.Lines.{lines_of}
use Rattle.scenario_run.specs.Playing.{next_of}
use Rattle.scenario_run.specs.Course.{named_in}
use Rattle.scenario_run.specs.Promises.{KeepsPromises}
use Rattle.scenario_run.specs.Script.{script_shape}
use Rattle.run_verify.specs.Checked.{ArePlaced, AreWellShown, RepliesWithin}
use Rattle.run_verify.specs.Plain.{EndsPlacing}
use Rattle.run_verify.specs.Told.{ToldStep, runs_told, turns_told}
use Rattle.run_verify.specs.declared.step.Step.{Step}
use Rattle.law_transcripts.proofs.ShownWhole.{IsWhole, whole}
use Rattle.law_transcripts.proofs.Telling.{steps_along, told_along}
use Rattle.law_transcripts.proofs.Turns.{legal-told, within-told}

-- all that is checked of what is told for these steps but the lines that tell it
pub record IsTold (s : Dimensions) (steps : List Step) (told : List ToldStep) : Type 0 where
  pub legal : IsLegal s.k (log_of (turns_told told))
  pub within : RepliesWithin (turns_told told)
  pub placed : ArePlaced s (log_of (turns_told told)) (runs_told told)
  pub shown : AreWellShown s (runs_told told) [] steps told

pub told-true : (text : List ℕ) (s : Dimensions) → KeepsPromises text → script_shape text ≡ Some s → EndsPlacing (steps_along None (lines_of text))
    → IsTold s (steps_along None (lines_of text)) (told_along None (lines_of text))
told-true text s keeps named ends = record {
  legal = subst (λ (t : Dimensions). IsLegal t.k (log_of (turns_told told))) (some-same keeps.shape s (sym keeps.named ∙ named)) (legal-told text keeps);
  within = within-told text keeps;
  placed = subst (λ (t : Dimensions). ArePlaced t (log_of (turns_told told)) (runs_told told)) same all.placed;
  shown = subst (λ (t : Dimensions). AreWellShown t (runs_told told) [] (steps_along None (lines_of text)) told) same all.shown;
}
  where
    told : List ToldStep
    told = told_along None (lines_of text)

    all : IsWhole (named_in next_of None (lines_of text)) (steps_along None (lines_of text)) told
    all = whole (lines_of text) ends

    same : all.shape ≡ s
    same = some-same all.shape s (sym all.is_named ∙ named)
