use Rattle.std.proofs.Common.{ℕ, ◌<◌}
use Rattle.group_cluster.specs.History.{HasFewEvents}
use Rattle.group_cluster.proofs.cluster.Cluster.all_have_few.Given as goal

abbrev pub invariant-groups : goal.invariant-groups
invariant-groups l = record {
  few : (j : ℕ) → j < l.group → HasFewEvents l.fn.self.groups j;
}
