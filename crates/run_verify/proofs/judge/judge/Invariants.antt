use Rattle.std.proofs.Common.{◌≤◌, ◌+◌, length}
use Rattle.std.specs.Prelude.{All}
use Rattle.group_types.specs.Shape.{IsShape}
use Rattle.scenario_run.specs.Lines.{lines_of}
use Rattle.run_verify.specs.Accounts.{account_of}
use Rattle.run_verify.specs.Courses.{IsAccountWithin, IsJudged, IsJudgedBehind, judging_state, sheet_on}
use Rattle.run_verify.specs.Judging.{IsStepOf}
use Rattle.run_verify.specs.Plain.{EndsPlacing}
use Rattle.run_verify.specs.declared.verdict.Verdict.{Verdict}
use Rattle.run_verify.proofs.judge.judge.Given as goal

abbrev pub invariant-lines : goal.invariant-lines
invariant-lines l = record {
  judged : (v : Verdict) → IsJudgedBehind l.done (sheet_on l.shape l.steps (lines_of l.text))
      (judging_state (account_of l.account) l.turn l.logging) (lines_of l.rest) v
      → IsJudged (sheet_on l.shape l.steps (lines_of l.text)) v;
  ends : EndsPlacing l.turn;
  fit : All (IsStepOf l.shape) l.turn;
  within : IsAccountWithin l.shape l.done (account_of l.account);
  of : IsShape l.shape;
  few : l.done + length l.rest ≤ length l.text;
}

abbrev pub decreases-lines : goal.decreases-lines
decreases-lines l = length l.rest
