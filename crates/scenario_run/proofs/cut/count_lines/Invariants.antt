use Rattle.std.proofs.Common.{◌≡◌, ◌+◌, ◌≤◌, length}
use Rattle.scenario_run.specs.Lines.{lines_of}
use Rattle.scenario_run.proofs.cut.count_lines.Given as goal

abbrev pub invariant-lines : goal.invariant-lines
invariant-lines l = record {
  many : l.count + length (lines_of l.rest) ≡ length (lines_of l.text);
  within : l.count + length l.rest ≤ length l.text;
}

abbrev pub decreases-lines : goal.decreases-lines
decreases-lines l = length l.rest
