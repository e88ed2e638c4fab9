use Rattle.std.proofs.Common.{◌≡◌, ◌++◌, length, map, take, drop}
use Rattle.group_types.specs.Dimensions.{Dimensions}
use Rattle.group_run.specs.World.{with_down}
use Rattle.group_core.specs.Seats.{AreNodesOf, nodes_of}
use Rattle.group_core.proofs.failing.tell_all.Given as goal

abbrev pub invariant-nodes : goal.invariant-nodes
invariant-nodes l = record {
  told : nodes_of l.nodes ≡ map (with_down l.down) (take l.x (nodes_of l.initial.nodes)) ++ drop l.x (nodes_of l.initial.nodes);
  shapes : (s : Dimensions) → AreNodesOf s l.initial.nodes → AreNodesOf s l.nodes;
  many : length l.nodes ≡ length l.initial.nodes;
}
