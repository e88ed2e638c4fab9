-- The replica of a partition: its settled items, the log of the updates above its applied number, and
-- what became of each caller's last applied update. To apply an update is to settle it here.
use Rattle.std.specs.Prelude.{ℕ, ◌+◌, ◌-◌, List, [], ◌∷◌, ◌++◌, length, replicate, take, drop, not, Option, Some, None, if◌then◌else◌}
use Rattle.std.specs.Cmp.Lexicographic.{slice_cmp}
use Rattle.std.specs.FinMap.Entries as entries
use Rattle.std.specs.Ordering.{nat_cmp}
pub use Rattle.group_types.specs.Dimensions.{callers}
use Rattle.group_types.specs.Lists.{put, same_key}
use Rattle.group_types.specs.declared.run.Run.{Run}
use Rattle.group_message.specs.declared.kept.Kept.{Kept}
use Rattle.group_message.specs.declared.update.Body.{Body}
use Rattle.group_message.specs.declared.update.Body.TheVariants.{Put, Remove, Touch}
use Rattle.group_message.specs.declared.update.Update.{Update}
use Rattle.item_index.specs.declared.slot.Slot.{Slot}

-- the settled items, each key with its slot, in the order of the keys
abbrev pub Items : Type 0
Items = List (List ℕ × Slot)

-- the replica of a partition at one process
pub record Replica : Type 0 where
  pub items : Items
  pub applied : ℕ
  pub log : List Update
  pub kept : List (Option Kept)

-- the replica at the start
abbrev pub empty_replica : Replica
empty_replica = record { items = []; applied = 0; log = []; kept = replicate callers None }

-- the last number of the applied part and the log
abbrev pub last_of : Replica → ℕ
last_of r = r.applied + length r.log

-- the item on a key, as settled
abbrev pub slot_in : Items → List ℕ → Option Slot
slot_in items key = entries.find (slice_cmp nat_cmp) key items

-- the run of an item
abbrev pub run_in : Slot → Run
run_in slot = record { at = slot.at; len = slot.len }

-- the number of the last update of a log on a key
abbrev pub number_on : List Update → List ℕ → Option ℕ
number_on [] key = None
number_on (u ∷ us) key = elim (number_on us key) [ Some n ↦ Some n | None ↦ if same_key u.key key then Some u.number else None ]

-- the run that an update writes
abbrev pub run_of : Body → Option Run
run_of (Put _ _ run _) = Some run
run_of Remove = None
run_of (Touch _) = None

-- the run that an update gives back: that of the item which it replaces or removes, and none of a touch
abbrev pub freed_by : Body → Option Slot → Option Run
freed_by (Touch _) slot = None
freed_by _ None = None
freed_by _ (Some slot) = Some (run_in slot)

-- the item that an update leaves, from the one that its key had
abbrev pub slot_after : ℕ → Body → Option Slot → Option Slot
slot_after n (Put flags until run _) old = Some (record { at = run.at; len = run.len; flags = flags; cas = n; until = until })
slot_after n Remove old = None
slot_after n (Touch until) None = None
slot_after n (Touch until) (Some s) = Some (record s { until = until })

-- the items with this one on a key, or with none there
abbrev pub with_slot : List ℕ → Option Slot → Items → Items
with_slot key None items = entries.where_key (slice_cmp nat_cmp) (λ x. not (same_key key x)) items
with_slot key (Some slot) items = entries.put (slice_cmp nat_cmp) key slot items

-- the items after an update
abbrev pub item_settled : Update → Items → Items
item_settled u items = with_slot u.key (slot_after u.number u.body (slot_in items u.key)) items

-- the items after updates, in order
abbrev pub items_after : Items → List Update → Items
items_after items [] = items
items_after items (u ∷ us) = items_after (item_settled u items) us

-- what is kept after updates, in order: per caller the last
abbrev pub kept_after : List (Option Kept) → List Update → List (Option Kept)
kept_after kept [] = kept
kept_after kept (u ∷ us) = kept_after (put None kept u.caller (Some (record { call = u.call; outcome = u.outcome }))) us

-- the updates that are applied on the way to number n
abbrev pub up_to : ℕ → Replica → List Update
up_to n r = take (n - r.applied) r.log

-- the replica with all of its log applied up to number n
abbrev pub applied_to : ℕ → Replica → Replica
applied_to n r = record {
  items = items_after r.items (up_to n r);
  applied = r.applied + length (up_to n r);
  log = drop (n - r.applied) r.log;
  kept = kept_after r.kept (up_to n r);
}

-- the replica with one update more in its log
abbrev pub with_update : Update → Replica → Replica
with_update u r = record { items = r.items; applied = r.applied; log = r.log ++ u ∷ []; kept = r.kept }

-- the replica with another log
abbrev pub with_log : List Update → Replica → Replica
with_log log r = record { items = r.items; applied = r.applied; log = log; kept = r.kept }
