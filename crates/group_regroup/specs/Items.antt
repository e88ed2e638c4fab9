-- Items that are carried, by what a head tells of them, and the loads and parcels that they stand for.
use Rattle.std.specs.Prelude.{ℕ, ◌≡◌, ◌<◌, List, [], ◌∷◌, ◌++◌, map, sum_by, All, if◌then◌else◌}
use Rattle.group_types.specs.declared.process.Partition.{Partition}
use Rattle.memc_table.specs.Expiry.{is_live}
use Rattle.group_calls.specs.declared.event.Event.{Event}
use Rattle.group_eras.specs.Carry as carry
use Rattle.group_eras.specs.Items.{Load}
use Rattle.group_eras.specs.declared.fault.CarryFault.{CarryFault}
use Rattle.group_eras.specs.declared.fault.CarryFault.TheVariants.{NoSpace, Want}
use Rattle.group_regroup.specs.declared.items.Item.{Item}
use Rattle.group_core.specs.declared.items.ItemHead.{ItemHead}
use Rattle.group_regroup.specs.declared.items.Parcel.{Parcel}

-- the load of an item, wherever its value stands and whatever its number is
abbrev pub item_load : Item → Load
item_load x = record { partition = x.partition.0; key = x.key; slot = record { at = 0; len = x.len; flags = x.flags; cas = 0; until = x.until } }

abbrev pub item_loads : List Item → List Load
item_loads xs = map item_load xs

-- an item with its value
abbrev pub parcel_as : Parcel → carry.Parcel
parcel_as x = record { partition = x.item.partition.0; key = x.item.key; flags = x.item.flags; until = x.item.until; value = x.value }

abbrev pub parcels_as : List Parcel → List carry.Parcel
parcels_as xs = map parcel_as xs

-- items of the first k partitions
abbrev pub AreWithin : ℕ → List Item → Type 0
AreWithin k xs = All (λ x. x.partition.0 < k) xs

abbrev pub AreAllWithin : ℕ → List Parcel → Type 0
AreAllWithin k xs = All (λ x. x.item.partition.0 < k) xs

-- what reading made, behind other events and other parcels
abbrev pub read_behind : List Event → List carry.Parcel → carry.Reading → carry.Reading
read_behind es ps r = record { events = es ++ r.events; world = r.world; parcels = ps ++ r.parcels }

-- the items of a partition that live at some moment, by what its head tells of them
abbrev pub item_of : Partition → ItemHead → Item
item_of p h = record { partition = p; key = h.key; len = h.len; flags = h.flags; until = h.until }

abbrev pub live_items : Partition → List ItemHead → List Item
live_items p [] = []
live_items p (h ∷ hs) = if is_live 0 h.until then item_of p h ∷ live_items p hs else live_items p hs

-- how many bytes their values have
abbrev pub value_bytes : List Item → ℕ
value_bytes xs = sum_by (λ x. x.len) xs

-- they have more than the space, or memory was wanted
abbrev pub IsLongFault : Partition → ℕ → ℕ → CarryFault → Type 0
IsLongFault p bytes space (NoSpace q) = (q ≡ p) × (space < bytes)
IsLongFault p bytes space Want = Unit {0}
IsLongFault p bytes space _ = ⊥
