-- Keys, and the items after one is put or taken away.
use Rattle.std.proofs.Common.{ℕ, ◌≡◌, ◌≢◌, Bool, true, false, not, cond, List, [], ◌∷◌, Option, Some, None, if◌then◌else◌, refl, sym, ap, ◌∙◌}
use Rattle.std.proofs.lemmas.Cmp.{nat_list_cmp_total, eq_by_cmp_equiv}
use Rattle.std.specs.Cmp.{tied_itself, Equal-is}
use Rattle.std.specs.Cmp.Lexicographic.{slice_cmp}
use Rattle.std.specs.FinMap as map
use Rattle.std.specs.FinMap.Entries as entries
use Rattle.std.specs.FinMap.Entries.{find-put, find-where_key, by_order}
use Rattle.std.specs.Ordering.{nat_cmp, is_eq}
use Rattle.std.specs.declared.cmp.Ordering.{Ordering}
use Rattle.std.specs.declared.cmp.Ordering.TheVariants.{Less, Equal, Greater}
use Rattle.group_types.specs.Lists.{same_key}
use Rattle.group_types.specs.Each.{Each}
use Rattle.item_index.specs.declared.slot.Slot.{Slot}
use Rattle.group_run.specs.Replica.{Items, slot_in, with_slot}

tied : map.IsAntisymmetric (slice_cmp nat_cmp)
tied = map.slice_cmp-IsAntisymmetric map.nat_cmp-IsAntisymmetric

-- the test says whether two keys are equal
pub key-refl : (key : List ℕ) → same_key key key ≡ true
key-refl key = ap is_eq (tied_itself nat_list_cmp_total key)

pub key-eq : (a b : List ℕ) → same_key a b ≡ true → a ≡ b
key-eq a b same = tied a b ((Equal-is (slice_cmp nat_cmp a b)).0 same)

pub key-sym : (a b : List ℕ) → same_key a b ≡ same_key b a
key-sym a b = (eq_by_cmp_equiv nat_list_cmp_total).symm a b

pub key-ne : (a b : List ℕ) → a ≢ b → same_key a b ≡ false
key-ne a b other = by (same_key a b) refl where
  by : (t : Bool) → same_key a b ≡ t → same_key a b ≡ false
  by true e = absurd (other (key-eq a b e))
  by false e = e

pub key-differs : (a b : List ℕ) → same_key a b ≡ false → a ≢ b
key-differs a b other same = cc (other, key-refl a, ap (same_key a) same)

-- the item on each key after one of them got this
pub slot_in-with : (key q : List ℕ) (w : Option Slot) (items : Items) → slot_in (with_slot key w items) q ≡ (if same_key key q then w else slot_in items q)
slot_in-with key q None items =
    find-where_key (slice_cmp nat_cmp) (λ x. not (same_key key x)) q (λ x tie. ap (λ (k : List ℕ). not (same_key key k)) (sym (tied q x tie))) items
    ∙ turn (same_key key q) where
      turn : (b : Bool) → cond (not b) (slot_in items q) None ≡ (if b then None else slot_in items q)
      turn true = refl
      turn false = refl
slot_in-with key q (Some slot) items =
    find-put (slice_cmp nat_cmp) nat_list_cmp_total q key slot items ∙ ap (λ (b : Bool). cond b (Some slot) (slot_in items q)) (key-sym q key)

-- what is said of each item's slot, after one of them got this
module _ (P : Slot → Type 0) where
  each-put : (key : List ℕ) (slot : Slot) (items : Items) → P slot → Each (λ x. P x.1) items
      → Each (λ x. P x.1) (entries.put (slice_cmp nat_cmp) key slot items)
  each-put key slot [] here all = (here, tt)
  each-put key slot (e ∷ es) here all = by (slice_cmp nat_cmp key e.0) (each-put key slot es here all.1) where
    by : (o : Ordering) → Each (λ x. P x.1) (entries.put (slice_cmp nat_cmp) key slot es)
        → Each (λ x. P x.1) (by_order o ((key, slot) ∷ e ∷ es) ((e.0, slot) ∷ es) (e ∷ entries.put (slice_cmp nat_cmp) key slot es))
    by Less rest = (here, all)
    by Equal rest = (here, all.1)
    by Greater rest = (all.0, rest)

  each-where : (p : List ℕ → Bool) (items : Items) → Each (λ x. P x.1) items → Each (λ x. P x.1) (entries.where_key (slice_cmp nat_cmp) p items)
  each-where p [] all = tt
  each-where p (e ∷ es) all = by (p e.0) (each-where p es all.1) where
    by : (b : Bool) → Each (λ x. P x.1) (entries.where_key (slice_cmp nat_cmp) p es)
        → Each (λ x. P x.1) (cond b (e ∷ entries.where_key (slice_cmp nat_cmp) p es) (entries.where_key (slice_cmp nat_cmp) p es))
    by true rest = (all.0, rest)
    by false rest = rest

  -- what is said of a slot, if there is one
  abbrev pub OfSlot : Option Slot → Type 0
  OfSlot None = Unit {0}
  OfSlot (Some slot) = P slot

  pub each-with : (key : List ℕ) (w : Option Slot) (items : Items) → OfSlot w → Each (λ x. P x.1) items → Each (λ x. P x.1) (with_slot key w items)
  each-with key None items here all = each-where (λ x. not (same_key key x)) items all
  each-with key (Some slot) items here all = each-put key slot items here all

  -- what is said of each is said of the one on a key
  pub each-slot : (key : List ℕ) (items : Items) → Each (λ x. P x.1) items → OfSlot (slot_in items key)
  each-slot key [] all = tt
  each-slot key (e ∷ es) all = by (is_eq (slice_cmp nat_cmp key e.0)) (each-slot key es all.1) where
    by : (b : Bool) → OfSlot (slot_in es key) → OfSlot (cond b (Some e.1) (slot_in es key))
    by true rest = all.0
    by false rest = rest
