-- The entries of an index as a finite map, for whoever keeps an index inside.
use Rattle.std.specs.Prelude.{[], ◌∷◌, Some, None}
use Rattle.std.specs.declared.cmp.Ordering.{Ordering}
use Rattle.std.specs.FinMap as map
use Rattle.item_index.specs.declared.slot.Slot.{Slot}
use Rattle.item_index.specs.Keys.{Keys}

-- each key that has an entry, with its slot
abbrev pub as_map : {K : Type 0} (R : K → K → Ordering) → Keys K → map.FinMap R Slot
as_map R [] = map.empty
as_map R ((key, None) ∷ rest) = map.remove (as_map R rest) key
as_map R ((key, Some slot) ∷ rest) = map.insert (as_map R rest) key slot
