use Rattle.std.proofs.Common.{◌≡◌, ◌≤◌, length}
use Rattle.scenario_run.specs.Lines.{lines_of}
use Rattle.run_verify.specs.Sheet.{behind_separator}
use Rattle.run_verify.proofs.script.transcript_in.Given as goal

abbrev pub invariant-lines : goal.invariant-lines
invariant-lines l = record {
  same : behind_separator (lines_of l.rest) ≡ behind_separator (lines_of l.text);
  within : length l.rest ≤ length l.text;
}

abbrev pub decreases-lines : goal.decreases-lines
decreases-lines l = length l.rest
