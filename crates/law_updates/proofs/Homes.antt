-- The items that a history leaves: each of a key of the partition, and each key once.
use Rattle.std.proofs.Common.{ℕ, ◌≡◌, ◌≢◌, ◌&&◌, Bool, true, false, not, cond, List, [], ◌∷◌, take, Option, Some, None, sym, ap, subst, ◌∙◌, arith}
use Rattle.std.specs.Prelude.{All, AllPairs, T}
use Rattle.std.proofs.lemmas.Cmp.{nat_list_cmp_total}
use Rattle.std.proofs.lemmas.List.Elements.{All-cons, All-nil}
use Rattle.std.proofs.lemmas.List.Kept.{AllPairs-cons}
use Rattle.std.specs.Cmp.{tied_itself}
use Rattle.std.specs.Cmp.Lexicographic.{slice_cmp}
use Rattle.std.specs.FinMap.Entries as entries
use Rattle.std.specs.FinMap.Entries.{by_order, is_sorted-put, is_sorted-where_key}
use Rattle.std.specs.Ordering.{is_lt, nat_cmp}
use Rattle.std.specs.declared.cmp.Ordering.{Ordering}
use Rattle.std.specs.declared.cmp.Ordering.TheVariants.{Less, Equal, Greater}
use Rattle.group_types.specs.Hash.{home_of}
use Rattle.group_types.specs.Lists.{same_key}
use Rattle.group_types.specs.Each.{Each}
use Rattle.item_index.specs.declared.slot.Slot.{Slot}
use Rattle.group_message.specs.declared.update.Update.{Update}
use Rattle.group_run.specs.Replica.{Items, item_settled, items_after, slot_after, slot_in, with_slot}
use Rattle.law_updates.proofs.Laws.{FineHistoriesLeaveItems}
use Rattle.law_updates.specs.Store.{no_store}
use Rattle.law_updates.proofs.Histories.{steps-each, steps-take}
use Rattle.law_updates.proofs.Steps.{no_store-fits}

-- what is said of each item's key
module _ (P : List ℕ → Type 0) where
  keys-put : (key : List ℕ) (slot : Slot) (items : Items) → P key → Each (λ x. P x.0) items → Each (λ x. P x.0) (entries.put (slice_cmp nat_cmp) key slot items)
  keys-put key slot [] here all = (here, tt)
  keys-put key slot (e ∷ es) here all = by (slice_cmp nat_cmp key e.0) (keys-put key slot es here all.1) where
    by : (o : Ordering) → Each (λ x. P x.0) (entries.put (slice_cmp nat_cmp) key slot es)
        → Each (λ x. P x.0) (by_order o ((key, slot) ∷ e ∷ es) ((e.0, slot) ∷ es) (e ∷ entries.put (slice_cmp nat_cmp) key slot es))
    by Less rest = (here, all)
    by Equal rest = (all.0, all.1)
    by Greater rest = (all.0, rest)

  keys-where : (p : List ℕ → Bool) (items : Items) → Each (λ x. P x.0) items → Each (λ x. P x.0) (entries.where_key (slice_cmp nat_cmp) p items)
  keys-where p [] all = tt
  keys-where p (e ∷ es) all = by (p e.0) (keys-where p es all.1) where
    by : (b : Bool) → Each (λ x. P x.0) (entries.where_key (slice_cmp nat_cmp) p es)
        → Each (λ x. P x.0) (cond b (e ∷ entries.where_key (slice_cmp nat_cmp) p es) (entries.where_key (slice_cmp nat_cmp) p es))
    by true rest = (all.0, rest)
    by false rest = rest

  keys-with : (key : List ℕ) (w : Option Slot) (items : Items) → P key → Each (λ x. P x.0) items → Each (λ x. P x.0) (with_slot key w items)
  keys-with key None items here all = keys-where (λ x. not (same_key key x)) items all
  keys-with key (Some slot) items here all = keys-put key slot items here all

  keys-after : (items : Items) (us : List Update) → Each (λ u. P u.key) us → Each (λ x. P x.0) items → Each (λ x. P x.0) (items_after items us)
  keys-after items [] own all = all
  keys-after items (u ∷ us) own all = keys-after (item_settled u items) us own.1
      (keys-with u.key (slot_after u.number u.body (slot_in items u.key)) items own.0 all)

-- the items stay in the order of their keys
abbrev Sorted : Items → Type 0
Sorted items = T (entries.is_sorted (slice_cmp nat_cmp) items)

sorted-with : (key : List ℕ) (w : Option Slot) (items : Items) → Sorted items → Sorted (with_slot key w items)
sorted-with key None items sorted = is_sorted-where_key (slice_cmp nat_cmp) (λ x. not (same_key key x)) items sorted
sorted-with key (Some slot) items sorted = is_sorted-put (slice_cmp nat_cmp) nat_list_cmp_total key slot items sorted

sorted-after : (items : Items) (us : List Update) → Sorted items → Sorted (items_after items us)
sorted-after items [] sorted = sorted
sorted-after items (u ∷ us) sorted = sorted-after (item_settled u items) us (sorted-with u.key (slot_after u.number u.body (slot_in items u.key)) items sorted)

first : (a b : Bool) → T (a && b) → T a
first true b p = tt
first false b p = p

second : (a b : Bool) → T (a && b) → T b
second true b p = p
second false b p = absurd p

below-differs : (key other : List ℕ) → T (is_lt (slice_cmp nat_cmp key other)) → key ≢ other
below-differs key other below same =
    subst (λ (o : Ordering). T (is_lt o)) (ap (slice_cmp nat_cmp key) (sym same) ∙ tied_itself nat_list_cmp_total key) below

others-all : (key : List ℕ) (items : Items) → T (entries.below_all (slice_cmp nat_cmp) key items) → All (λ x. key ≢ x.0) items
others-all key [] below = All-nil (λ x. key ≢ x.0)
others-all key (e ∷ es) below = All-cons (λ x. key ≢ x.0) e es (below-differs key e.0 (first _ _ below)) (others-all key es (second _ _ below))

sorted-once : (items : Items) → Sorted items → AllPairs (λ x y. x.0 ≢ y.0) items
sorted-once [] sorted = λ i j d below within. absurd (omega (arith, within))
sorted-once (e ∷ es) sorted = AllPairs-cons (λ x y. x.0 ≢ y.0) e es (others-all e.0 es (first _ _ sorted)) (sorted-once es (second _ _ sorted))

all-from : (P : List ℕ × Slot → Type 0) (items : Items) → Each P items → All P items
all-from P [] all = All-nil P
all-from P (e ∷ es) all = All-cons P e es all.0 (all-from P es all.1)

pub fine_histories_leave_items : FineHistoriesLeaveItems
fine_histories_leave_items s calls d a n h fine = record {
  homes = all-from (λ x. home_of x.0 s.k ≡ d) (items_after [] (take n h)) (keys-after (λ key. home_of key s.k ≡ d) [] (take n h)
      (steps-each s calls d (λ u. home_of u.key s.k ≡ d) (λ m store u fits step. ap (λ (key : List ℕ). home_of key s.k)
      step.right.key ∙ step.fits.home) 0 (no_store s) (take n h) (no_store-fits s)
      (steps-take s calls d n 0 (no_store s) h fine.steps)) tt);
  once = sorted-once (items_after [] (take n h)) (sorted-after [] (take n h) tt);
}
