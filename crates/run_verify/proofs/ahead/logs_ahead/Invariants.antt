use Rattle.std.proofs.Common.{length}
use Rattle.std.specs.Prelude.{◌↔◌}
use Rattle.scenario_run.specs.Lines.{lines_of}
use Rattle.run_verify.specs.Passing.{LogsAhead}
use Rattle.run_verify.proofs.ahead.logs_ahead.Given as goal

abbrev pub invariant-lines : goal.invariant-lines
invariant-lines l = record { same : LogsAhead l.front l.reply (lines_of l.rest) ↔ LogsAhead l.front l.reply (lines_of l.ahead) }

abbrev pub decreases-lines : goal.decreases-lines
decreases-lines l = length l.rest
