use Rattle.std.proofs.Common.{◌≡◌, drop}
use Rattle.partition_replica.specs.Coming.{runs_behind}
use Rattle.partition_replica.proofs.left.runs_behind.Given as goal

abbrev pub invariant-updates : goal.invariant-updates
invariant-updates l = runs_behind l.key (drop l.update-index l.updates) l.run ≡ runs_behind l.key l.updates l.fn.old
