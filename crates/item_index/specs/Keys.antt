-- An index as contracts see it: its ready keys, each with its slot where it has an entry.
use Rattle.std.specs.Prelude.{◌≡◌, ℕ, Bool, List, count_by, Option, is_some}
use Rattle.std.specs.Option.{option_and_then}
use Rattle.std.specs.Map.{lookup, keys_of}
use Rattle.std.specs.List.{IsDistinct}
use Rattle.item_index.specs.declared.slot.Slot.{Slot}

-- the ready keys, each with its slot or none; their order says nothing
abbrev pub Keys : Type 0 → Type 0
Keys K = List (K × Option Slot)

module _ {K : Type 0} (eq : K → K → Bool) where
  -- the slot of the entry that the key has
  abbrev pub entry_slot : Keys K → K → Option Slot
  entry_slot index key = option_and_then (λ slot. slot) (lookup (eq key) index)

  -- whether an entry can be put at the key without memory
  abbrev pub is_ready : Keys K → K → Bool
  is_ready index key = is_some (lookup (eq key) index)

  -- the list has each key that has an entry once, with its slot
  pub record IsListing (index : Keys K) (list : List (K × Slot)) : Type 0 where
    pub once : IsDistinct eq (keys_of list)
    pub slots : (key : K) → lookup (eq key) list ≡ entry_slot index key

-- how many keys have an entry
abbrev pub entry_count : {K : Type 0} → Keys K → ℕ
entry_count index = count_by (λ entry. is_some entry.1) index

-- a copy of a key is the key
abbrev pub CopiesEqual : {K : Type 0} → (K → K → Type 0) → Type 0
CopiesEqual {K} is_clone = (key copy : K) → is_clone key copy → copy ≡ key
