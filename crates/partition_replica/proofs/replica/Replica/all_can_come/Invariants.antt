use Rattle.std.proofs.Common.{[], take}
use Rattle.group_types.specs.Dimensions.{space_of}
use Rattle.group_run.specs.Fitting.{AllCanCome}
use Rattle.group_run.specs.Replica.{applied_to, with_log}
use Rattle.partition_replica.proofs.replica.Replica.all_can_come.Given as goal

abbrev pub invariant-updates : goal.invariant-updates
invariant-updates l = AllCanCome (space_of l.self.shape) (with_log [] (applied_to l.base l.self.replica)) (take l.index l.updates)
