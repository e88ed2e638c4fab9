use Rattle.std.proofs.Common.{◌↔◌, suc, drop}
use Rattle.group_run.specs.Fitting.{NumberedFrom}
use Rattle.partition_replica.proofs.replica.coming.are_numbered.Given as goal

abbrev pub invariant-updates : goal.invariant-updates
invariant-updates l = NumberedFrom (suc l.base) l.updates ↔ NumberedFrom (suc l.last) (drop l.update-index l.updates)
