-- The keys of an index: what its equality is, and how its entries stand for items and ready keys.
use Rattle.std.proofs.Common.{slice_index_or, All, ◌≡◌, ℕ, Bool, true, false, ◌&&◌, ◌||◌, not, List, [], ◌∷◌, Option}
use Rattle.std.proofs.Common.{Some, None, is_some, if◌then◌else◌, refl, sym, ap, ◌∙◌, cond}
use Rattle.std.specs.Prelude.{T}
use Rattle.std.specs.Cmp.Lexicographic.{slice_cmp}
use Rattle.std.specs.FinMap as map
use Rattle.std.specs.FinMap.Entries.{same_entries, find-where_key, is_sorted-where_key}
use Rattle.std.specs.FinSet as set
use Rattle.std.specs.List.{list_any}
use Rattle.std.specs.declared.cmp.Ordering.TheVariants.{Equal}
use mathlib.Core.Bool.{false≢true, and-false}
use Rattle.std.proofs.Math.Bool.{and-true, or-true}
use Rattle.std.specs.Map.{lookup, keys_of}
use Rattle.std.specs.Option.{option_map, option_or}
use Rattle.std.specs.Ordering.{nat_cmp, is_eq}
use Rattle.std.proofs.lemmas.List.Elements.{All-cons, All-nil}
use Rattle.std.specs.Cmp.{Equal-is, tied_itself}
use Rattle.std.proofs.lemmas.Cmp.{nat_list_cmp_total, eq_by_cmp_equiv}
use Rattle.std.proofs.lemmas.Map.Text.{is_eq-slice_cmp}
use Rattle.group_types.specs.contracts.key.KeyPartialEq.TheImpl.{eq-value}
use Rattle.group_message.specs.declared.update.Update.{Update}
use Rattle.std.specs.Prelude.{is_some}
use Rattle.group_types.specs.Lists.{same_key}
use Rattle.group_run.specs.Replica.{number_on, slot_in, with_slot}
use Rattle.item_index.specs.declared.slot.Slot.{Slot}
use Rattle.item_index.specs.AsMap.{as_map}
use Rattle.item_index.specs.Keys.{Keys, entry_slot, is_ready}
use Rattle.item_index.proofs.AsMap.{get-as_map, as_map-same, as_map-insert, as_map-remove}
use Rattle.request_log.specs.Logged.{find_last}
use Rattle.item_index.proofs.Ready.{is_ready-from_slot}
use Rattle.partition_replica.specs.Inside.{items_in, ready_in}
use Rattle.partition_replica.specs.State.{is_among, is_needed}

abbrev pub equal : List ℕ → List ℕ → Bool
equal = eq-value.it

pub equal_is : (a b : List ℕ) → equal a b ≡ same_key a b
equal_is a b = sym (is_eq-slice_cmp a b)

equal_order : (a b : List ℕ) → equal a b ≡ true → slice_cmp nat_cmp a b ≡ Equal
equal_order a b same = (Equal-is (slice_cmp nat_cmp a b)).0 (sym (equal_is a b) ∙ same)

pub itself : (key : List ℕ) → same_key key key ≡ true
itself key = ap is_eq (tied_itself nat_list_cmp_total key)

pub tied : map.IsAntisymmetric (slice_cmp nat_cmp)
tied = map.slice_cmp-IsAntisymmetric map.nat_cmp-IsAntisymmetric

pub swapped : (a b : List ℕ) → same_key a b ≡ same_key b a
swapped a b = (eq_by_cmp_equiv nat_list_cmp_total).symm a b

-- the item on a key is the slot of its entry
pub slot_in-items_in : (index : Keys (List ℕ)) (key : List ℕ) → slot_in (items_in index) key ≡ entry_slot equal index key
slot_in-items_in index key = sym (map.get-entries (as_map (slice_cmp nat_cmp) index) key) ∙ get-as_map nat_list_cmp_total equal equal_is index key

-- what entries leave unchanged
pub items_in-same : (old new : Keys (List ℕ)) → ((q : List ℕ) → entry_slot equal new q ≡ entry_slot equal old q) → items_in new ≡ items_in old
items_in-same old new slots = ap map.entries (as_map-same nat_list_cmp_total equal equal_is tied old new slots)

-- an entry that is put, or taken away
pub items_in-put : (old new : Keys (List ℕ)) (key : List ℕ) (slot : Slot)
    → ((q : List ℕ) → entry_slot equal new q ≡ (if equal key q then Some slot else entry_slot equal old q))
    → items_in new ≡ with_slot key (Some slot) (items_in old)
items_in-put old new key slot slots =
    ap map.entries (as_map-insert nat_list_cmp_total equal equal_is tied old new key slot slots)
    ∙ map.entries-insert nat_list_cmp_total _ key slot

entries-remove : (m : map.FinMap (slice_cmp nat_cmp) Slot) (key : List ℕ) → map.entries (map.remove m key) ≡ with_slot key None (map.entries m)
entries-remove m key =
    same_entries (slice_cmp nat_cmp) nat_list_cmp_total tied _ _ (map.entries_sorted (map.remove m key))
    (is_sorted-where_key (slice_cmp nat_cmp) others _ (map.entries_sorted m)) (λ q.
    sym (map.get-entries (map.remove m key) q) ∙ map.get-remove nat_list_cmp_total m key q
    ∙ turned (same_key q key) (same_key key q) (swapped q key) (map.get m q)
    ∙ ap (λ found. cond (others q) found None) (map.get-entries m q)
    ∙ sym (find-where_key (slice_cmp nat_cmp) others q (λ x tie. ap others (sym (tied q x tie)))
    (map.entries m))) where
      others : List ℕ → Bool
      others x = not (same_key key x)

      turned : (a b : Bool) → a ≡ b → (found : Option Slot) → cond a None found ≡ cond (not b) found None
      turned true true same found = refl
      turned true false same found = absurd (false≢true (sym same))
      turned false true same found = absurd (false≢true same)
      turned false false same found = refl

pub items_in-remove : (old new : Keys (List ℕ)) (key : List ℕ)
    → ((q : List ℕ) → entry_slot equal new q ≡ (if equal key q then None else entry_slot equal old q))
    → items_in new ≡ with_slot key None (items_in old)
items_in-remove old new key slots = ap map.entries (as_map-remove nat_list_cmp_total equal equal_is tied old new key slots) ∙ entries-remove _ key

-- no item is on the key, so none can be taken away
pub with_none : (index : Keys (List ℕ)) (key : List ℕ) → entry_slot equal index key ≡ None → items_in index ≡ with_slot key None (items_in index)
with_none index key none = items_in-remove index index key (λ q. unchanged (equal key q) q refl) where
  unchanged : (b : Bool) (q : List ℕ) → equal key q ≡ b → entry_slot equal index q ≡ (if equal key q then None else entry_slot equal index q)
  unchanged true q same = rw same (ap (entry_slot equal index) (sym (tied key q (equal_order key q same))) ∙ none)
  unchanged false q other = rw other refl

contained : (index : Keys (List ℕ)) (key : List ℕ) → set.contains (set.from_list {R = slice_cmp nat_cmp} (keys_of index)) key ≡ is_ready equal index key
contained index key = set.contains-from_list nat_list_cmp_total (keys_of index) key ∙ found index where
  found : (entries : Keys (List ℕ)) → list_any (same_key key) (keys_of entries) ≡ is_some (lookup (equal key) entries)
  found [] = refl
  found (e ∷ es) =
      elim (equal key e.0) as (λ b. same_key key e.0 ≡ b → (same_key key e.0 || list_any (same_key key) (keys_of es))
      ≡ is_some (cond b (Some e.1) (lookup (equal key) es))) [
        | true ↦ λ same. rw same refl
        | false ↦ λ other. rw other (found es)
      ] (sym (equal_is key e.0))

-- a key that is ready is among the ready ones
pub ready_in-is : (index : Keys (List ℕ)) (key : List ℕ) → is_among (ready_in index) key ≡ is_ready equal index key
ready_in-is index key = sym (set.contains-items (set.from_list (keys_of index)) key) ∙ contained index key

pub ready_in-same : (old new : Keys (List ℕ)) → ((q : List ℕ) → is_ready equal new q ≡ is_ready equal old q) → ready_in new ≡ ready_in old
ready_in-same old new same = ap set.items (set.same_set nat_list_cmp_total tied _ _ (λ q. contained new q ∙ same q ∙ sym (contained old q)))

-- the last update on a key, as the log finds it
pub number_on-found : (log : List Update) (key : List ℕ) → option_map (λ u. u.number) (find_last (λ u. equal u.key key) log) ≡ number_on log key
number_on-found [] key = refl
number_on-found (u ∷ us) key = later (find_last (λ v. equal v.key key) us) (number_on us key) (number_on-found us key) where
  here : (b : Bool) → option_map (λ v. v.number) (if b then Some u else None) ≡ (if b then Some u.number else None)
  here true = refl
  here false = refl

  later : (found : Option Update) (number : Option ℕ) → option_map (λ v. v.number) found ≡ number
      → option_map (λ v. v.number) (option_or found (if equal u.key key then Some u else None))
      ≡ elim number [ Some n ↦ Some n | None ↦ if same_key u.key key then Some u.number else None ]
  later None number is = rw (← is, equal_is u.key key) (here (same_key u.key key))
  later (Some v) number is = rw (← is) refl

is_there : {X : Type 0} (found : Option X) → is_some found ≡ is_some found
is_there None = refl
is_there (Some x) = refl

-- whether an update waits on a key, as the log finds it
pub waits_as_found : (log : List Update) (key : List ℕ) (found : Option ℕ)
    → found ≡ option_map (λ u. u.number) (find_last (λ u. equal u.key key) log) → is_some (number_on log key)
    ≡ is_some found
waits_as_found log key found is = sym (is_there found ∙ ap is_some (is ∙ number_on-found log key))

-- a key that has an item is ready
with_item : (index : Keys (List ℕ)) (key : List ℕ) → is_some (slot_in (items_in index) key) ≡ true → is_among (ready_in index) key ≡ true
with_item index key some =
    ready_in-is index key ∙ is_ready-from_slot equal index key (is_there (entry_slot equal index key) ∙ ap is_some (sym (slot_in-items_in index key)) ∙ some)

module _ (old : Keys (List ℕ)) (log : List Update) (key q : List ℕ) where
  -- whether a key is ready still, once another is tidied
  abbrev left : Bool
  left = is_among (ready_in old) q && (not (same_key key q) || is_needed (items_in old) log q)

  other_left : equal key q ≡ false → is_among (ready_in old) q ≡ left
  other_left other = rw (← equal_is key q, other) (sym (and-true (is_among (ready_in old) q)))

  item_left : equal key q ≡ true → is_some (number_on log q) ≡ false → (b : Bool) → is_some (slot_in (items_in old) q) ≡ b → b ≡ left
  item_left same none true some = rw (some, with_item old q some, or-true (not (same_key key q))) refl
  item_left same none false some = rw (some, none, ← equal_is key q, same) (sym (and-false (is_among (ready_in old) q)))

  -- a key that no update waits on is ready afterwards only if it has an item
  pub ready_in-tidy : (new : Keys (List ℕ)) → is_some (number_on log key) ≡ false
      → is_ready equal new q ≡ (if equal key q then is_some (entry_slot equal old q) else is_ready equal old q)
      → is_among (ready_in new) q ≡ left
  ready_in-tidy new none tidied = ready_in-is new q ∙ tidied
      ∙ elim (equal key q) as
      (λ b. equal key q ≡ b → (if b then is_some (entry_slot equal old q) else is_ready equal old q) ≡ left) [
        | true ↦ λ same.
            is_there (entry_slot equal old q) ∙ ap is_some (sym (slot_in-items_in old q))
            ∙ item_left same (ap (λ (k : List ℕ). is_some (number_on log k)) (sym (tied key q (equal_order key q same))) ∙ none) _ refl
        | false ↦ λ other. sym (ready_in-is old q) ∙ other_left other
      ] refl

  -- a key that an update waits on is needed
  pub ready_in-waiting : is_some (number_on log key) ≡ true → is_among (ready_in old) q ≡ left
  ready_in-waiting waits = elim (equal key q) as (λ b. equal key q ≡ b → is_among (ready_in old) q ≡ left) [
    | true ↦ λ same.
        rw (
          ap (λ (k : List ℕ). is_some (number_on log k)) (sym (tied key q (equal_order key q same))) ∙ waits,
          or-true (is_some (slot_in (items_in old) q)),
          or-true (not (same_key key q)),
        )
        (sym (and-true (is_among (ready_in old) q)))
    | false ↦ λ other. other_left other
  ] refl

-- each key that an update is on is needed
pub number_on-each : (log : List Update) → All (λ u. is_some (number_on log u.key) ≡ true) log
number_on-each [] = All-nil (λ u. is_some (number_on [] u.key) ≡ true)
number_on-each (u ∷ us) = All-cons (λ v. is_some (number_on (u ∷ us) v.key) ≡ true) u us (own (number_on us u.key))
    (λ k d lt. kept (number_on us (slice_index_or us k d).key) (same_key u.key (slice_index_or us k d).key)
    (number_on-each us k d lt)) where
      own : (later : Option ℕ) → is_some (elim later [ Some n ↦ Some n | None ↦ if same_key u.key u.key then Some u.number else None ]) ≡ true
      own None = rw (itself u.key) refl
      own (Some n) = refl

      kept : (later : Option ℕ) (b : Bool) → is_some later ≡ true → is_some (elim later [ Some n ↦ Some n | None ↦ if b then Some u.number else None ]) ≡ true
      kept None b is = absurd (false≢true is)
      kept (Some n) b is = refl

-- a key that is made ready is among the ready ones, and so are those that were
pub ready_in-prepare : (old new : Keys (List ℕ)) (key : List ℕ) → ((q : List ℕ) → is_ready equal new q ≡ (equal key q || is_ready equal old q))
    → (q : List ℕ) → is_among (ready_in new) q ≡ (same_key key q || is_among (ready_in old) q)
ready_in-prepare old new key prepared q = ready_in-is new q ∙ prepared q ∙ rw (equal_is key q, ready_in-is old q) refl

pub items_in-empty : items_in [] ≡ []
items_in-empty = same_entries (slice_cmp nat_cmp) nat_list_cmp_total tied _ _
    (map.entries_sorted (as_map (slice_cmp nat_cmp) [])) tt
    (λ q. sym (map.get-entries (as_map (slice_cmp nat_cmp) []) q) ∙ map.get-empty (slice_cmp nat_cmp) q)

pub items_in-sorted : (index : Keys (List ℕ)) → T (map.is_sorted (slice_cmp nat_cmp) (items_in index))
items_in-sorted index = map.entries_sorted (as_map (slice_cmp nat_cmp) index)
