-- The items of a partition, without their values.
use Rattle.std.specs.Prelude.{ℕ, ◌≡◌, List, map}
use Rattle.group_types.specs.Names.{of_rank}
use Rattle.item_index.specs.declared.slot.Slot.{Slot}
use Rattle.group_run.specs.Applying.{replica_of}
use Rattle.group_run.specs.Meaning.{Heads, process_of}
use Rattle.group_run.specs.Replica.{Items}
use Rattle.group_run.specs.World.{World}
use Rattle.group_core.specs.declared.items.ItemHead.{ItemHead}

-- an item by its key and its slot
abbrev pub item_head_of : List ℕ × Slot → ItemHead
item_head_of item = record { key = item.0; len = item.1.len; flags = item.1.flags; until = item.1.until }

abbrev pub heads_of : Items → List ItemHead
heads_of items = map item_head_of items

-- the list has each settled item of the partition's head, in the order of keys
pub record ListsItems (w : World) (d : ℕ) (list : List ItemHead) : Type 0 where
  pub rank : ℕ
  pub heads : Heads w d rank
  pub items : list ≡ heads_of (replica_of (process_of w (of_rank d rank)) d).items
