-- What is told of a script that is read and was played: for its steps, in lines that its transcript is cut into.
use Rattle.std.proofs.Common.{◌≡◌, ◌≤◌, ◌+◌, ℕ, List, length, Some, None, Ok, sym, subst, arith}
use Rattle.std.proofs.lemmas.List.Elements.{All-weaker}
use Rattle.std.specs.Prelude.{All}
use Rattle.group_calls.specs.Turns.{log_of}
use Rattle.scenario_run.specs.Lines.{lines_of}
use Rattle.scenario_run.specs.Promises.{KeepsPromises}
use Rattle.scenario_run.specs.Script.{first_fault, script_shape, script_turns, transcript}
use Rattle.scenario_run.proofs.Promises.{scripts_keep_promises}
use Rattle.scenario_play.specs.Status.{longest_script}
use Rattle.run_verify.proofs.Judged.{lines-few}
use Rattle.run_verify.specs.Steps.{Script, script_in}
use Rattle.run_verify.specs.Told.{TellAll, lines_told}
use Rattle.run_verify.specs.declared.step.Step.{Step}
use Rattle.law_transcripts.proofs.Asks.{turns-fine}
use Rattle.law_transcripts.proofs.Few.{turns-few}
use Rattle.law_transcripts.proofs.Lines.{PlainKey, lines-told}
use Rattle.law_transcripts.proofs.Logs.{FineEntry, FitsLogged, log-short, ops-fine, replies-fit}
use Rattle.law_transcripts.proofs.Replies.{FitsIfReply, turns-fit}
use Rattle.law_transcripts.proofs.Steps.{script-is}
use Rattle.law_transcripts.proofs.Telling.{steps_along, told_along}
use Rattle.law_transcripts.proofs.Tells.{script-tells}

pub record IsToldBy (text : List ℕ) (script : Script) : Type 0 where
  pub steps : script.steps ≡ steps_along None (lines_of text)
  pub shape : script_shape text ≡ Some script.shape
  pub lines : lines_of (transcript text) ≡ lines_told (told_along None (lines_of text))
  pub tells : TellAll script.steps (told_along None (lines_of text))

pub told-by : (text : List ℕ) (script : Script) → length text ≤ longest_script → first_fault text ≡ None → script_in 1 None (lines_of text) ≡ Ok script
    → IsToldBy text script
told-by text script short whole ok = record {
  steps = (script-is text script ok).0;
  shape = (script-is text script ok).1;
  lines = lines-told None (lines_of text) (All-weaker FineEntry PlainKey (λ e fine. fine.1) (log_of (script_turns text)) ops);
  tells = subst (λ (steps : List Step). TellAll steps (told_along None (lines_of text))) (sym (script-is text script ok).0)
      (script-tells (lines_of text) (omega (arith, few, short)) fits);
} where
  promises : KeepsPromises text
  promises = scripts_keep_promises text whole

  few : length (lines_of text) ≤ length text + 1
  few = lines-few text

  ops : All FineEntry (log_of (script_turns text))
  ops = ops-fine promises.shape.k (script_turns text) promises.within (turns-fine None (lines_of text))

  replies : All FitsLogged (log_of (script_turns text))
  replies =
      let many = turns-few (lines_of text) in
      let log = log-short promises.shape.k (script_turns text) promises.within in
      let lines = few in
      replies-fit promises.shape.k (log_of (script_turns text)) (omega (arith, many, log, lines, short)) promises.legal ops

  fits : All FitsIfReply (script_turns text)
  fits = turns-fit promises.shape.k (script_turns text) promises.within replies
