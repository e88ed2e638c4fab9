use Rattle.std.proofs.Common.{ℕ, ◌≤◌, ◌<◌, ◌^◌}
use Rattle.group_types.specs.Lists.{at}
use Rattle.regroup_play.proofs.carrying.has_low_bases.Given as goal

abbrev pub invariant-partitions : goal.invariant-partitions
invariant-partitions l = record {
  low : (d : ℕ) → d < l.partition → at 0 l.regroup.bases d < 2 ^ 62;
  within : l.partition ≤ l.regroup.world.shape.k;
}
