-- The entries of an index, in a list.
use Rattle.std.proofs.Common.{◌≡◌, ◌+◌, Bool, true, false, cond, List, [], ◌∷◌, length, Option, Some, None, is_some, refl, sym, ap, ◌∙◌, arith}
use Rattle.std.specs.Cmp.{IsEquivalence}
use Rattle.std.specs.List.{IsDistinct, AllByRecursion}
use Rattle.std.specs.Map.{lookup, keys_of}
use Rattle.std.specs.Option.{option_and_then}
use Rattle.std.proofs.lemmas.List.Recursion.{is_count_by}
use Rattle.std.proofs.lemmas.Map.{NonePasses, lookup-none}
use Rattle.std.proofs.lemmas.Map.Entries.{length-keys_of, none_past_head}
use Rattle.std.proofs.lemmas.Map.Keys.{IsDistinct-head, IsDistinct-tail, IsDistinct-cons}
use Rattle.std.proofs.lemmas.Map.Made.{is_some-lookup, length-from_same_keys}
use Rattle.item_index.specs.declared.slot.Slot.{Slot}
use Rattle.item_index.specs.Keys.{Keys, entry_slot, entry_count, IsListing}

-- each key that has an entry, with its slot
abbrev pub listed : {K : Type 0} → Keys K → List (K × Slot)
listed [] = []
listed ((key, None) ∷ rest) = listed rest
listed ((key, Some slot) ∷ rest) = (key, slot) ∷ listed rest

-- what holds of all ready keys holds of those that are listed
all_listed : {K : Type 0} (P : K → Type 0) (index : Keys K) → AllByRecursion P (keys_of index) → AllByRecursion P (keys_of (listed index))
all_listed P [] all = all
all_listed P ((key, None) ∷ rest) all = all_listed P rest all.1
all_listed P ((key, Some slot) ∷ rest) all = (all.0, all_listed P rest all.1)

none_listed : {K : Type 0} (test : K → Bool) (index : Keys K) → NonePasses test index → NonePasses test (listed index)
none_listed test [] none = none
none_listed test ((key, None) ∷ rest) none = none_listed test rest none.1
none_listed test ((key, Some slot) ∷ rest) none = (none.0, none_listed test rest none.1)

-- as many are listed as have an entry
length-listed : {K : Type 0} (index : Keys K) → length (listed index) ≡ entry_count index
length-listed {K} = is_count_by (λ index. length (listed index)) (λ entry. is_some entry.1) refl (λ entry rest. more entry.0 entry.1 rest) where
  more : (key : K) (slot : Option Slot) (rest : Keys K) → length (listed ((key, slot) ∷ rest)) ≡ cond (is_some slot)
      (1 + length (listed rest)) (length (listed rest))
  more key None rest = refl
  more key (Some slot) rest = omega arith

module _ {K : Type 0} (eq : K → K → Bool) (laws : IsEquivalence eq) where
  once : (index : Keys K) → IsDistinct eq (keys_of index) → IsDistinct eq (keys_of (listed index))
  once [] distinct = distinct
  once ((key, None) ∷ rest) distinct = once rest (IsDistinct-tail eq key (keys_of rest) distinct)
  once ((key, Some slot) ∷ rest) distinct =
      IsDistinct-cons eq key _
      (all_listed (λ other. eq key other ≡ false) rest (IsDistinct-head eq key (keys_of rest) distinct))
      (once rest (IsDistinct-tail eq key (keys_of rest) distinct))

  slots : (index : Keys K) → IsDistinct eq (keys_of index) → (q : K) → lookup (eq q) (listed index) ≡ entry_slot eq index q
  slots [] distinct q = refl
  slots ((key, None) ∷ rest) distinct q =
      elim (eq q key) as (λ b. eq q key ≡ b → lookup (eq q) (listed rest) ≡ option_and_then (λ slot. slot) (cond b (Some None) (lookup (eq q) rest))) [
        | true ↦ λ same. lookup-none (eq q) (listed rest) (none_listed (eq q) rest (none_past_head laws q (key, None) rest distinct same))
        | false ↦ λ _. slots rest (IsDistinct-tail eq key (keys_of rest) distinct) q
      ] refl
  slots ((key, Some slot) ∷ rest) distinct q =
      elim (eq q key) as (λ b. cond b (Some slot) (lookup (eq q) (listed rest)) ≡ option_and_then (λ s. s) (cond b (Some (Some slot)) (lookup (eq q) rest))) [
        | true ↦ refl
        | false ↦ slots rest (IsDistinct-tail eq key (keys_of rest) distinct) q
      ]

  pub listing : (index : Keys K) → IsDistinct eq (keys_of index) → IsListing eq index (listed index)
  listing index distinct = record { once = once index distinct; slots = slots index distinct }

  -- each listing is as long
  pub length-listing : (index : Keys K) → IsDistinct eq (keys_of index) → (list : List (K × Slot)) → IsListing eq index list → length list ≡ entry_count index
  length-listing index distinct list is =
      let own = listing index distinct in
      let long = length-from_same_keys laws (keys_of list) (keys_of (listed index)) is.once own.once
      (λ q. sym (is_some-lookup (eq q) list) ∙ ap is_some (is.slots q ∙ sym (own.slots q)) ∙ is_some-lookup (eq q) (listed index)) in
      sym (length-keys_of list) ∙ long ∙ length-keys_of (listed index) ∙ length-listed index
