use Rattle.std.proofs.Common.{◌≡◌, ◌≤◌, ◌+◌, length, drop}
use Rattle.group_run.specs.World.{dead_nodes}
use Rattle.group_core.specs.Seats.{nodes_of}
use Rattle.group_core.proofs.failing.count_dead.Given as goal

abbrev pub invariant-nodes : goal.invariant-nodes
invariant-nodes l = record {
  within : l.x ≤ length l.nodes;
  few : l.dead + l.x ≤ length l.nodes;
  dead : l.dead ≡ dead_nodes (nodes_of (drop l.x l.nodes));
}

abbrev pub decreases-nodes : goal.decreases-nodes
decreases-nodes l = l.x
