use Rattle.std.proofs.Common.{◌≡◌, ◌≤◌, ◌-◌, drop, length}
use Rattle.erasure_code.specs.Code.{coded}
use Rattle.group_types.specs.Dimensions.{space_of}
use Rattle.run_verify.specs.Accounts.{lists_of}
use Rattle.run_verify.specs.Shadows.{AllFollow}
use Rattle.run_verify.specs.Showing.{AreBelow, spaces_in}
use Rattle.run_verify.specs.Updates.{spaces_by}
use Rattle.run_verify.proofs.Parts.{IsSummed}
use Rattle.run_verify.proofs.spaces.coded_part.Given as goal

abbrev pub invariant-partitions : goal.invariant-partitions
invariant-partitions l = record {
  summed : IsSummed l.shape.m l.process (space_of l.shape) l.run (spaces_in l.shape (lists_of l.changes)) l.partition (drop l.partition l.stamp) l.sum.items
      (coded l.shape.m l.process (space_of l.shape) (spaces_by (spaces_in l.shape (lists_of l.changes)) 0 l.stamp));
  long : length l.sum.items ≡ l.run.len;
  within : l.partition ≤ length l.stamp;
  below : AreBelow (lists_of l.changes) l.partition (drop l.partition l.stamp);
  follow : AllFollow (lists_of l.changes) l.shadows.items;
}

abbrev pub decreases-partitions : goal.decreases-partitions
decreases-partitions l = length l.stamp - l.partition
