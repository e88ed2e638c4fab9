use Rattle.std.proofs.Common.{◌≤◌, ◌-◌, IsSome}
use Rattle.group_types.specs.Dimensions.{space_of}
use Rattle.group_run.specs.Free.{place_for}
use Rattle.partition_replica.proofs.Longest.{NoneAbove}
use Rattle.partition_replica.proofs.replica.Replica.longest.Given as goal

abbrev pub invariant-lengths : goal.invariant-lengths
invariant-lengths l = record {
  order : l.low ≤ l.high;
  fits : IsSome (place_for (space_of l.self.shape) l.self.replica l.low);
  most : NoneAbove (space_of l.self.shape) l.self.replica l.high;
}

abbrev pub decreases-lengths : goal.decreases-lengths
decreases-lengths l = l.high - l.low
