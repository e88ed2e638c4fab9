use Rattle.std.proofs.Common.{◌≡◌, length}
use Rattle.scenario_run.specs.Lines.{lines_of}
use Rattle.run_verify.specs.Sheet.{before_separator}
use Rattle.run_verify.specs.Steps.{is_over}
use Rattle.run_verify.proofs.script.is_over.Given as goal

abbrev pub invariant-lines : goal.invariant-lines
invariant-lines l = record { same : is_over (before_separator (lines_of l.rest)) ≡ is_over (before_separator (lines_of l.text)) }

abbrev pub decreases-lines : goal.decreases-lines
decreases-lines l = length l.rest
