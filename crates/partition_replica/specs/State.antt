-- A replica as contracts see it: what it holds, as the group's machine says it, and its room.
use Rattle.std.specs.Prelude.{◌≡◌, ℕ, ◌≤◌, Bool, true, ◌||◌, max, List, length, All}
use Rattle.std.specs.List.{list_any}
use Rattle.group_types.specs.Dimensions.{Dimensions}
use Rattle.group_message.specs.declared.update.Update.{Update}
use Rattle.std.specs.List.{list_any}
use Rattle.std.specs.Prelude.{is_some}
use Rattle.group_types.specs.Lists.{same_key}
use Rattle.group_run.specs.Replica.{Items, Replica, slot_in, number_on}

-- how many updates can come without memory, and the keys, in order, that these may be on
pub record Room : Type 0 where
  pub spare : ℕ
  pub ready : List (List ℕ)

-- the group's shape, the machine's replica, and the room beside it
pub record ReplicaState : Type 0 where
  pub shape : Dimensions
  pub replica : Replica
  pub room : Room

-- whether a key is among these
abbrev pub is_among : List (List ℕ) → List ℕ → Bool
is_among keys key = list_any (same_key key) keys

-- the updates can come, one after the other, without memory
pub record HasRoom (room : Room) (updates : List Update) : Type 0 where
  pub spare : length updates ≤ room.spare
  pub ready : All (λ u. is_among room.ready u.key ≡ true) updates

-- whether one of the updates is on the key
abbrev pub is_touched : List Update → List ℕ → Bool
is_touched updates key = list_any (λ u. same_key u.key key) updates

-- no more room was made than these updates call for
pub record GrowsFor (old new : Room) (updates : List Update) : Type 0 where
  pub spare : new.spare ≤ max old.spare (length updates)
  pub ready : (q : List ℕ) → is_among new.ready q ≡ true → (is_among old.ready q || is_touched updates q) ≡ true

-- whether a key has an item, or an update that waits
abbrev pub is_needed : Items → List Update → List ℕ → Bool
is_needed items log key = is_some (slot_in items key) || is_some (number_on log key)

-- each key that is ready is needed, or owed: a process has to tidy it yet
abbrev pub IsTidyBut : ReplicaState → (List ℕ → Bool) → Type 0
IsTidyBut s owed = (q : List ℕ) → is_among s.room.ready q ≡ true → (is_needed s.replica.items s.replica.log q || owed q) ≡ true
