use Rattle.std.proofs.Common.{◌≡◌, replicate}
use Rattle.group_run.specs.World.{opening}
use Rattle.group_cluster.proofs.groups.worlds_at_start.Given as goal

abbrev pub invariant-groups : goal.invariant-groups
invariant-groups l = record {
  worlds : l.worlds.items ≡ replicate l.counter (opening l.fn.shape);
}
