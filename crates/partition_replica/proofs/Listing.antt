-- The entries of an index, once they are in the order of keys, are the items.
use Rattle.std.proofs.Common.{◌≡◌, ℕ, suc, ◌+◌, ◌<◌, Bool, true, false, ◌&&◌, List, [], ◌∷◌, length, get_or, Option}
use Rattle.std.proofs.Common.{Some, None, refl, sym, ap, ◌∙◌, subst, arith}
use Rattle.std.specs.Prelude.{T}
use mathlib.Core.Bool.{false≢true}
use Rattle.std.specs.declared.cmp.Ordering.{Ordering}
use Rattle.std.specs.declared.cmp.Ordering.TheVariants.{Less, Equal, Greater}
use Rattle.std.specs.Cmp.Lexicographic.{slice_cmp}
use Rattle.std.specs.Cmp.{Equal-is, IsEquivalence}
use Rattle.std.specs.FinMap as map
use Rattle.std.specs.FinMap.Entries.{find, below_all, is_sorted, same_entries}
use Rattle.std.specs.List.{AllByRecursion, IsDistinct}
use Rattle.std.specs.List.Sorted.{IsPermutation, IsSortedBy}
use Rattle.std.specs.Map.{lookup, keys_of}
use Rattle.std.specs.Ordering.{nat_cmp, is_eq, is_lt, ordering_reverse}
use Rattle.std.proofs.lemmas.Cmp.{nat_list_cmp_total, eq_by_cmp_equiv}
use Rattle.std.proofs.lemmas.List.MinMax.{ranks_by}
use Rattle.std.proofs.lemmas.List.Sorted.{Contains-permutation, IsPermutation-map, IsPermutation-sym, sorted_far}
use Rattle.std.proofs.lemmas.Map.Keys.{IsDistinct-IsPermutation, IsDistinct-head, IsDistinct-tail}
use Rattle.std.proofs.lemmas.Map.Views.{Contains-from_lookup, lookup-from_Contains}
use Rattle.item_index.specs.declared.slot.Slot.{Slot}
use Rattle.item_index.specs.AsMap.{as_map}
use Rattle.item_index.specs.Keys.{Keys, entry_count, IsListing}
use Rattle.item_index.proofs.Listing.{length-listing}
use Rattle.partition_replica.specs.Inside.{items_in}
use Rattle.partition_replica.proofs.Keys.{equal, equal_is, slot_in-items_in, tied}

abbrev order : List ℕ → List ℕ → Ordering
order = slice_cmp nat_cmp

abbrev pub comes_before : List ℕ × Slot → List ℕ × Slot → Bool
comes_before x y = is_lt (order x.0 y.0)

equal_same : (x y : List ℕ) → equal x y ≡ true → x ≡ y
equal_same x y is = tied x y ((Equal-is (order x y)).0 (sym (equal_is x y) ∙ is))

equal_laws : IsEquivalence equal
equal_laws = subst IsEquivalence (λ i x y. sym (equal_is x y) i) (eq_by_cmp_equiv nat_list_cmp_total)

-- sorted keys are distinct
once_sorted : (es : List (List ℕ × Slot)) → T (is_sorted order es) → IsDistinct equal (keys_of es)
unfolding IsDistinct
once_sorted [] up = tt
once_sorted (e ∷ es) up = (apart es (first _ _ up), once_sorted es (second _ _ up)) where
  first : (a b : Bool) → T (a && b) → T a
  first true b both = tt
  first false b both = elim both [ ]

  second : (a b : Bool) → T (a && b) → T b
  second true b both = both
  second false b both = elim both [ ]

  differs : (r : Ordering) → T (is_lt r) → is_eq r ≡ false
  differs Less below = refl
  differs Equal below = elim below [ ]
  differs Greater below = elim below [ ]

  apart : (fs : List (List ℕ × Slot)) → T (below_all order e.0 fs) → AllByRecursion (λ y. equal e.0 y ≡ false) (keys_of fs)
  apart [] low = tt
  apart (f ∷ fs) low = (equal_is e.0 f.0 ∙ differs (order e.0 f.0) (first _ _ low), apart fs (second _ _ low))

find_lookup : (q : List ℕ) (es : List (List ℕ × Slot)) → find order q es ≡ lookup (equal q) es
find_lookup q [] = refl
find_lookup q (e ∷ es) = rw (equal_is q e.0, find_lookup q es) refl

-- distinct keys in weak order are in strict order
below : (x : List ℕ × Slot) (es : List (List ℕ × Slot)) → AllByRecursion (λ y. equal x.0 y ≡ false) (keys_of es)
    → ((j : ℕ) (d : List ℕ × Slot) → j < length es → comes_before (get_or es j d) x ≡ false) → T (below_all order x.0 es)
below x [] other up = tt
below x (e ∷ es) (differs, others) up = both _ _ (before _ refl) (below x es others (λ j d low. up (suc j) d (omega (arith, low)))) where
  both : (a b : Bool) → T a → T b → T (a && b)
  both true b p q = q
  both false b p q = p

  before : (r : Ordering) → order x.0 e.0 ≡ r → T (is_lt r)
  before Less is = tt
  before Equal is = absurd (false≢true (sym differs ∙ equal_is x.0 e.0 ∙ ap is_eq is))
  before Greater is = absurd (false≢true (sym (up 0 e (omega arith)) ∙ ap is_lt (nat_list_cmp_total.antisymm e.0 x.0 ∙ ap ordering_reverse is)))

rises : (es : List (List ℕ × Slot)) → IsDistinct equal (keys_of es) → IsSortedBy comes_before es → T (is_sorted order es)
rises [] distinct up = tt
rises (e ∷ es) distinct up =
    both _ _ (below e es (IsDistinct-head equal e.0 (keys_of es) distinct)
    (λ j d low. sorted_far comes_before (ranks_by nat_list_cmp_total (λ (x : List ℕ × Slot). x.0)) (e ∷ es) up 0
    (suc j) d (omega arith) (omega (arith, low))))
    (rises es (IsDistinct-tail equal e.0 (keys_of es) distinct) later) where
      both : (a b : Bool) → T a → T b → T (a && b)
      both true b p q = q
      both false b p q = p

      later : IsSortedBy comes_before es
      later k d low less =
          let next : suc k + 1 ≡ suc (k + 1) = omega arith in
          subst (λ (n : ℕ). comes_before (get_or (e ∷ es) n d) (get_or es k d) ≡ false) next (up (suc k) d (omega arith) (omega (arith, less)))

-- the order of the entries doesn't count
same_lookup : (xs ys : List (List ℕ × Slot)) (q : List ℕ) → IsDistinct equal (keys_of xs)
    → IsDistinct equal (keys_of ys) → IsPermutation xs ys → lookup (equal q) ys ≡ lookup (equal q) xs
same_lookup xs ys q once again moved = by (lookup (equal q) xs) (lookup (equal q) ys) refl refl where
  by : (x y : Option Slot) → lookup (equal q) xs ≡ x → lookup (equal q) ys ≡ y → lookup (equal q) ys ≡ lookup (equal q) xs
  by (Some slot) y is there = lookup-from_Contains equal_laws q slot ys again
      (Contains-permutation xs ys (q, slot) moved (Contains-from_lookup equal_same q slot xs is)) ∙ sym is
  by None (Some slot) is there = lookup-from_Contains equal_laws q slot ys again (Contains-from_lookup equal_same q slot ys there)
      ∙ sym (lookup-from_Contains equal_laws q slot xs once
      (Contains-permutation ys xs (q, slot) (IsPermutation-sym xs ys moved)
      (Contains-from_lookup equal_same q slot ys there)))
  by None None is there = there ∙ sym is

pub items_sorted : (index : Keys (List ℕ)) (xs ys : List (List ℕ × Slot)) → IsListing equal index xs
    → IsPermutation xs ys → IsSortedBy comes_before ys → ys ≡ items_in index
items_sorted index xs ys listing moved up =
    let again : IsDistinct equal (keys_of ys) = IsDistinct-IsPermutation equal equal_laws.symm (keys_of xs) (keys_of ys)
    (IsPermutation-map (λ (e : List ℕ × Slot). e.0) xs ys moved) listing.once in
    same_entries order nat_list_cmp_total tied ys (items_in index) (rises ys again up) (map.entries_sorted (as_map order index))
    (λ q. find_lookup q ys ∙ same_lookup xs ys q listing.once again moved ∙ listing.slots q ∙ sym (slot_in-items_in index q))

-- as many keys have an entry as there are items
pub count-items_in : (index : Keys (List ℕ)) → IsDistinct equal (keys_of index) → entry_count index ≡ length (items_in index)
count-items_in index distinct = sym (length-listing equal equal_laws index distinct (items_in index) (record {
  once = once_sorted (items_in index) (map.entries_sorted (as_map order index));
  slots = λ q. sym (find_lookup q (items_in index)) ∙ slot_in-items_in index q;
}))
