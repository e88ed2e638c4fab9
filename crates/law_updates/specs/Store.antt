-- The items and the space of a partition after its updates, and what the table sees of them.
use Rattle.std.specs.Prelude.{ℕ, ◌≡◌, ◌<◌, ◌≤◌, ◌+◌, List, [], ◌∷◌, length, replicate, Option, Some, None, All}
use Rattle.group_types.specs.Dimensions.{Dimensions, space_of}
use Rattle.group_types.specs.declared.process.ProcessId.TheVariants.{DataNode}
use Rattle.group_types.specs.Each.{Each}
use Rattle.item_index.specs.declared.slot.Slot.{Slot}
use Rattle.memc_table.specs.declared.holding.Holding.{Holding}
use Rattle.group_message.specs.declared.update.Update.{Update}
use Rattle.erasure_code.specs.Spaces.{bytes_at}
use Rattle.group_run.specs.Applying.{space_added}
use Rattle.group_run.specs.Deciding.{held_as}
use Rattle.group_run.specs.Replica.{Items, item_settled, slot_in}

-- the settled items of a partition, and its space
pub record Store : Type 0 where
  pub items : Items
  pub space : List ℕ

-- a store at the start
abbrev pub no_store : Dimensions → Store
no_store s = record { items = []; space = replicate (space_of s) 0 }

-- a store of partition d after an update
abbrev pub store_with_update : Dimensions → ℕ → Update → Store → Store
store_with_update s d u store = record { items = item_settled u store.items; space = space_added s (DataNode d) d u.body store.space }

-- a store after updates, in order
abbrev pub store_from : Dimensions → ℕ → Store → List Update → Store
store_from s d store [] = store
store_from s d store (u ∷ us) = store_from s d (store_with_update s d u store) us

-- the store of partition d after its updates
abbrev pub store_after : Dimensions → ℕ → List Update → Store
store_after s d us = store_from s d (no_store s) us

-- an item with the bytes that stand in its run
abbrev pub held_in : List ℕ → Option Slot → Option Holding
held_in space None = None
held_in space (Some slot) = Some (held_as slot (bytes_at slot.at slot.len space))

-- what is held for a key, as the table sees it
abbrev pub held : Store → List ℕ → Option Holding
held store key = held_in store.space (slot_in store.items key)

-- a store is as long as a space of the group, consists of bytes, and has the runs of its items
pub record StoreFits (s : Dimensions) (store : Store) : Type 0 where
  pub long : length store.space ≡ space_of s
  pub bytes : All (λ b. b < 256) store.space
  pub inside : Each (λ x. x.1.at + x.1.len ≤ space_of s) store.items
