use Rattle.std.proofs.Common.{◌≡◌, ◌+◌, ◌≤◌, length, None}
use Rattle.scenario_run.specs.Lines.{lines_of}
use Rattle.run_verify.specs.Judging.{AreStepsOf}
use Rattle.run_verify.specs.Scripts.{IsAtLine}
use Rattle.run_verify.specs.Sheet.{before_separator}
use Rattle.run_verify.specs.Steps.{behind, script_in}
use Rattle.run_verify.proofs.script.read_script.Given as goal

abbrev pub invariant-lines : goal.invariant-lines
invariant-lines l = record {
  same : behind l.steps.items (script_in l.number l.setting (before_separator (lines_of l.rest))) ≡ script_in 1 None (before_separator (lines_of l.text));
  low : IsAtLine l.number l.setting;
  steps : AreStepsOf l.setting l.steps.items;
  within : l.number + length l.rest ≤ 1 + length l.text;
}

abbrev pub decreases-lines : goal.decreases-lines
decreases-lines l = length l.rest
