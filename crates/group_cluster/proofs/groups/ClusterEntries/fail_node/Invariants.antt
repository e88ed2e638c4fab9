use Rattle.std.proofs.Common.{length}
use Rattle.group_cluster.proofs.Cutting.{Started}
use Rattle.group_cluster.proofs.groups.ClusterEntries.fail_node.Given as goal

abbrev pub invariant-groups : goal.invariant-groups
invariant-groups l = record {
  started : Started l.initial.self l.self l.fn.nodes l.fn.node l.fn.keep (length l.initial.self.worlds) l.group;
}
