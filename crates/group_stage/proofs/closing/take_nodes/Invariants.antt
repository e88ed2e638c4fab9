use Rattle.std.proofs.Common.{◌≡◌, ◌<◌, ℕ, length}
use Rattle.std.specs.Prelude.{Some, slice_get}
use Rattle.std.specs.Slots.{slots_filled, slots_items, slots_len}
use mathlib.Core.Option as maybe
use lib.ListN.{get_elem?}
use Rattle.group_types.specs.Dimensions.{processes_of}
use Rattle.group_node.specs.Standing.{NodeStanding}
use Rattle.group_stage.specs.Emptied.{AreTaken}
use Rattle.group_stage.specs.Places.{slot_of}
use Rattle.group_stage.proofs.closing.take_nodes.Given as goal

abbrev pub invariant-processes : goal.invariant-processes
invariant-processes l = record {
  taken : AreTaken (slot_of l.p) (slots_filled l.closed.slots);
  flags : length (slots_filled l.closed.slots) ≡ slot_of (processes_of l.fn.shape);
  many : slots_len l.closed.slots ≡ slot_of (processes_of l.fn.shape);
  items : slots_items l.closed.slots ≡ slots_items l.fn.slots.slots;
  room : l.taken.room ≡ processes_of l.fn.shape;
  done : length l.taken.nodes ≡ l.p;
  nodes : (q : ℕ) (y : NodeStanding) → q < l.p → get_elem? (slots_items l.fn.slots.slots) (slot_of q)
      ≡ maybe.some (Some y) → slice_get l.taken.nodes q ≡ Some y;
}
