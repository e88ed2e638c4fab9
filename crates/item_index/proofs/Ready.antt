-- What readers of an index know of its keys.
use Rattle.std.proofs.Common.{◌≡◌, Bool, true, Option, Some, None, IsSome, is_some, refl}
use Rattle.std.specs.Map.{lookup}
use Rattle.std.specs.Option.{option_and_then}
use Rattle.item_index.specs.declared.slot.Slot.{Slot}
use Rattle.item_index.specs.Keys.{Keys, entry_slot, is_ready}

ready_slot : (found : Option (Option Slot)) → IsSome (option_and_then (λ slot. slot) found) → is_some found ≡ true
ready_slot None some = some
ready_slot (Some slot) some = refl

-- a key that has an entry is ready
pub is_ready-from_slot : {K : Type 0} (eq : K → K → Bool) (index : Keys K) (key : K) → IsSome (entry_slot eq index key) → is_ready eq index key ≡ true
is_ready-from_slot eq index key some = ready_slot (lookup (eq key) index) some
