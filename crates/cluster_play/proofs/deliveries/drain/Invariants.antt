use Rattle.std.proofs.Common.{◌≤◌, length}
use Rattle.cluster_play.proofs.Delivering.{Drained}
use Rattle.cluster_play.proofs.deliveries.drain.Given as goal

abbrev pub invariant-groups : goal.invariant-groups
invariant-groups l = record {
  drained : Drained l.initial.cluster l.cluster l.group l.initial.text.items l.text.items l.count;
  within : l.group ≤ length l.initial.cluster.groups.worlds;
}
