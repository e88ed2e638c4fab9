use Rattle.group_types.specs.Dimensions.{space_of}
use Rattle.group_regroup.proofs.Loads.{Loaded}
use Rattle.group_regroup.proofs.carrying.loads_at_rest.Given as goal

abbrev pub invariant-partitions : goal.invariant-partitions
invariant-partitions l = Loaded l.world (space_of l.fn.shape) l.items.items l.d
