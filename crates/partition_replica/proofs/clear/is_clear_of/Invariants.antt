use Rattle.std.proofs.Common.{◌≡◌, ℕ, true, drop}
use Rattle.std.specs.List.{list_any}
use Rattle.group_run.specs.Free.{in_run, in_some_run}
use Rattle.partition_replica.specs.Sound.{log_runs}
use Rattle.partition_replica.proofs.clear.is_clear_of.Given as goal

abbrev pub invariant-updates : goal.invariant-updates
invariant-updates l = (a : ℕ) → in_some_run a l.run ≡ true
    → list_any (in_run a) (log_runs l.updates) ≡ list_any (in_run a) (log_runs (drop l.update-index l.updates))
