use Rattle.std.proofs.Common.{◌≡◌, ◌<◌, ◌^◌, List, length, ◌∙◌, ap, sym, subst, arith}
use Rattle.std.proofs.lemmas.Grind.{common_steps}
use Rattle.scenario_run.specs.Lines.{lines_of}
use Rattle.run_verify.specs.Courses.{IsJudged}
use Rattle.run_verify.specs.Plain.{EndsPlacing}
use Rattle.run_verify.specs.Scripts.{sheet_by}
use Rattle.run_verify.specs.Steps.{Script}
use Rattle.run_verify.specs.declared.step.Step.{Step}
use Rattle.run_verify.proofs.PlainScript.{ends-read}
use Rattle.run_verify.proofs.Verdicts.{verdict_of}
use Rattle.run_verify.proofs.verifying.verify.Goals as goal

pub judge-requires-clause-ends : goal.judge-requires-clause-ends
judge-requires-clause-ends c =
    let same : c.deref.result.now ≡ c.in_ok-script.script.steps = c.deref.ensures.value ∙ ap (λ (s : Script). s.steps) c.script.view_is in
    subst EndsPlacing (sym same) (ends-read c.args.input.now (sheet_by (c.in_ok-script.script, c.in_ok-script.transcript)) c.in_ok-script.ensures.read)

pub returns : goal.returns
returns c =
    let same = ap (λ (st : List Step). record { shape = c.script.inside.shape; steps = st }) c.deref.ensures.value ∙ c.script.view_is in
    let judged = subst (λ (s : Script). IsJudged (record { script = s; lines = lines_of c.in_ok-script.transcript.now })
    c.in_ok-verdict.verdict) same c.in_ok-verdict.ensures in
    let long : length c.deref.result.now < 2 ^ 64 = grind (arith, common_steps) in
    let few = subst (λ (st : List Step). length st < 2 ^ 64) (c.deref.ensures.value ∙ ap (λ (s : Script). s.steps) c.script.view_is) long in
    record {
      verdict = verdict_of c.args.input.now (sheet_by (c.in_ok-script.script, c.in_ok-script.transcript))
          c.in_ok-script.ensures.read c.in_ok-script.ensures.steps few c.in_ok-verdict.verdict judged;
    }
