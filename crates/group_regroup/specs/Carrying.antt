-- What is carried, part by part, and what a carry that is refused leaves.
use Rattle.std.specs.Prelude.{ℕ, ◌≡◌, ◌+◌, ◌<◌, ◌≤◌, List, map}
use Rattle.std.specs.List.{range_with_len}
use Rattle.group_types.specs.Dimensions.{Dimensions}
use Rattle.group_types.specs.Lists.{at}
use Rattle.group_run.specs.Meaning.{count_logged}
use Rattle.group_run.specs.World.{World, opening, world_after}
use Rattle.group_eras.specs.Carry.{IsBegun, Parcel, setting}
use Rattle.group_eras.specs.Eras.{Eras}
use Rattle.group_eras.specs.Items.{Load, bytes_in_partition}
use Rattle.group_eras.specs.Told.{Bases}
use Rattle.group_eras.specs.declared.fault.CarryFault.{CarryFault}
use Rattle.group_eras.specs.declared.fault.CarryFault.TheVariants.{Down, NoSpace, NotDrained, Want}
use Rattle.group_regroup.specs.Items.{item_loads}
use Rattle.group_regroup.specs.Kept.{entries_from}
use Rattle.group_regroup.specs.declared.changing.Lowered.{Lowered}
use Rattle.group_regroup.specs.declared.fresh.Fresh.{Fresh}
use Rattle.group_regroup.specs.declared.items.Item.{Item}

-- a load, wherever its value stands and whatever its number is
abbrev pub load_known : Load → Load
load_known x = record { partition = x.partition; key = x.key; slot = record { at = 0; len = x.slot.len; flags = x.slot.flags; cas = 0; until = x.slot.until } }

-- items stand for loads
abbrev pub StandFor : List Item → List Load → Type 0
StandFor items xs = item_loads items ≡ map load_known xs

-- the items of each of the first so many partitions fit in a space
abbrev pub AllFit : World → ℕ → ℕ → Type 0
AllFit w space many = (d : ℕ) → d < many → bytes_in_partition w d ≤ space

-- the bases behind a world
abbrev pub bases_after : World → Bases → Bases
bases_after w bases = map (λ d. at 0 bases d + count_logged w d) (range_with_len 0 w.shape.k)

-- what stands behind a world whose items are read: a group in which they are set, its bases, and what is told of the log
pub record IsFresh (w : World) (old : Bases) (lowered : List Lowered) (s : Dimensions) (parcels : List Parcel) (fresh : Fresh) : Type 0 where
  pub world : fresh.world ≡ world_after (opening s) (setting (opening s) parcels)
  pub bases : fresh.bases.items ≡ bases_after w old
  pub told : fresh.told.items ≡ entries_from old w.shape.k lowered 0 w.log

-- after want of memory the first events of the reading stand, and after each other fault all is as it was
abbrev pub IsLeftByFault : Eras → Eras → CarryFault → Type 0
IsLeftByFault before after Want = IsBegun before after
IsLeftByFault before after Down = after ≡ before
IsLeftByFault before after NotDrained = after ≡ before
IsLeftByFault before after (NoSpace _) = after ≡ before
