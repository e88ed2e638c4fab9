-- What a place of an index holds, from its fields.
use Rattle.std.specs.Prelude.{Option, Some, None}
use Rattle.item_index.specs.declared.slot.Slot.{Slot}
use Rattle.item_index.specs.declared.place.Kind.{Kind}
use Rattle.item_index.specs.declared.place.Kind.TheVariants.{Free, Lasting, Ending}
use Rattle.item_index.specs.declared.place.Place.TheInside.{Inside}

-- the slot of a place of this kind, if it has one
abbrev pub slot_by : Kind → Inside → Option Slot
slot_by Free p = None
slot_by Lasting p = Some (record { at = p.at; len = p.len; flags = p.flags; cas = p.cas; until = None })
slot_by Ending p = Some (record { at = p.at; len = p.len; flags = p.flags; cas = p.cas; until = Some p.until })

abbrev pub slot_at : Inside → Option Slot
slot_at p = slot_by p.kind p
