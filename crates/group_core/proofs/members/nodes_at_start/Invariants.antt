use Rattle.std.proofs.Common.{◌≡◌, ◌++◌, ◌-◌, length, map}
use Rattle.std.specs.List.{range_with_len}
use Rattle.group_types.specs.Names.{process_at}
use Rattle.group_run.specs.World.{opening_node}
use Rattle.group_core.specs.Seats.{AreNodesOf, nodes_of}
use Rattle.group_core.proofs.members.nodes_at_start.Given as goal

abbrev pub invariant-processes : goal.invariant-processes
invariant-processes l = record {
  all : nodes_of l.nodes.items ++ map (λ x. opening_node l.fn.shape (process_at l.fn.shape x)) (range_with_len l.x (l.fn.count - l.x))
      ≡ map (λ x. opening_node l.fn.shape (process_at l.fn.shape x)) (range_with_len 0 l.fn.count);
  shapes : AreNodesOf l.fn.shape l.nodes.items;
  many : length l.nodes.items ≡ l.x;
}
