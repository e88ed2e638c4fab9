use Rattle.std.proofs.Common.{drop}
use Rattle.partition_replica.proofs.Moving.{Giving}
use Rattle.partition_replica.proofs.runs.give_runs.Given as goal

abbrev pub invariant-updates : goal.invariant-updates
invariant-updates l = Giving l.initial.runs l.runs l.updates (drop l.update-index l.updates)
