-- Marked keys, as keys are put among them and taken away.
use Rattle.std.proofs.Common.{◌≡◌, ℕ, ◌<◌, ◌≤◌, nat_eq, List, [], ◌∷◌, ◌++◌, length, Bool, true, false, ◌||◌}
use Rattle.std.proofs.Common.{slice_index_or, slice_set, refl, sym, ◌∙◌, subst, ⊎_elim, arith}
use Rattle.std.specs.List.{IsDistinct, AllByRecursion, list_any}
use Rattle.std.specs.Cmp.{nat_eq_equiv}
use Rattle.std.proofs.lemmas.Bool.{cases_Bool, cases_lt, eq-eqb, eqb-true}
use Rattle.std.proofs.lemmas.List.{get_or-set_same, get_or-set_other, get_or_past, length-set}
use Rattle.std.proofs.lemmas.List.Folds.{list_any-append}
use Rattle.std.proofs.lemmas.Map.Keys.{IsDistinct-cons, IsDistinct-head, IsDistinct-tail, IsDistinct-push}
use Rattle.std.proofs.lemmas.Map.Steps.{length-le_from_distinct_below}
use Rattle.ready_places.specs.Queue.{MarksKeys, is_queued}

all-apart : (test : ℕ → Bool) (keys : List ℕ) → list_any test keys ≡ false → AllByRecursion (λ other. test other ≡ false) keys
all-apart test [] none = tt
all-apart test (key ∷ keys) none = ⊎_elim
    (λ equal. let bad : true ≡ false = rw equal at none in cc)
    (λ differs. (differs, all-apart test keys (rw differs at none)))
    (cases_Bool (test key))

none-apart : (test : ℕ → Bool) (keys : List ℕ) → AllByRecursion (λ other. test other ≡ false) keys → list_any test keys ≡ false
none-apart test [] all = refl
none-apart test (key ∷ keys) all = rw all.0 (none-apart test keys all.1)

-- a marked key is within the room
pub within : (keys : List ℕ) (marks : List Bool) (capacity key : ℕ) → MarksKeys keys marks capacity → is_queued keys key ≡ true → key < length marks
within keys marks capacity key kept there = ⊎_elim
    (λ below. below)
    (λ past. let bad : false ≡ true = sym (get_or_past marks key false past) ∙ kept.marked key ∙ there in cc)
    (cases_lt key (length marks))

-- the key at the head stands there
pub itself : (key : ℕ) (keys : List ℕ) → is_queued (key ∷ keys) key ≡ true
itself key keys = let same = eq-eqb key key refl in rw same refl

-- there is room for a key that isn't marked
pub free : (keys : List ℕ) (marks : List Bool) (capacity key : ℕ) → MarksKeys keys marks capacity → key < length marks
    → is_queued keys key ≡ false → length keys < capacity
free keys marks capacity key kept below out = omega (arith, kept.room, length-le_from_distinct_below (key ∷ keys) (length marks) more at)
  where
    more : IsDistinct nat_eq (key ∷ keys)
    more = IsDistinct-cons nat_eq key keys (all-apart (nat_eq key) keys out) kept.once

    at : (q : ℕ) → list_any (nat_eq q) (key ∷ keys) ≡ true → q < length marks
    at q there = ⊎_elim
        (λ equal. subst (λ (n : ℕ). n < length marks) (sym (eqb-true q key equal)) below)
        (λ differs. within keys marks capacity q kept (rw differs at there))
        (cases_Bool (nat_eq q key))

-- a key was put at the head
pub first : (keys : List ℕ) (marks : List Bool) (capacity key : ℕ) → MarksKeys keys marks capacity → key < length marks → is_queued keys key ≡ false
    → MarksKeys (key ∷ keys) (slice_set marks key true) capacity
first keys marks capacity key kept below out = record {
  once = IsDistinct-cons nat_eq key keys (all-apart (nat_eq key) keys out) kept.once;
  marked = λ q. ⊎_elim
      (λ equal. rw equal (rw (eqb-true q key equal) (get_or-set_same marks key true false below)))
      (λ differs. rw differs
      (get_or-set_other marks key q true false (λ same. let bad : true ≡ false = sym (eq-eqb q key same) ∙ differs in
      cc) ∙ kept.marked q))
      (cases_Bool (nat_eq q key));
  room = rw (length-set marks key true) kept.room;
}

-- a key was put at the end
pub last : (keys : List ℕ) (marks : List Bool) (capacity key : ℕ) → MarksKeys keys marks capacity → key < length marks → is_queued keys key ≡ false
    → MarksKeys (keys ++ key ∷ []) (slice_set marks key true) capacity
last keys marks capacity key kept below out = record {
  once = IsDistinct-push nat_eq_equiv keys key kept.once out;
  marked = λ q. (front.marked q) ∙ moved q;
  room = front.room;
}
  where
    front : MarksKeys (key ∷ keys) (slice_set marks key true) capacity
    front = first keys marks capacity key kept below out

    swaps : (a b : Bool) → (a || b) ≡ (b || (a || false))
    swaps true true = refl
    swaps true false = refl
    swaps false true = refl
    swaps false false = refl

    moved : (q : ℕ) → is_queued (key ∷ keys) q ≡ is_queued (keys ++ key ∷ []) q
    moved q = swaps (nat_eq q key) (is_queued keys q) ∙ sym (list_any-append (nat_eq q) keys (key ∷ []))

-- the key at the head stands there once
pub alone : (keys : List ℕ) (marks : List Bool) (capacity key : ℕ) → MarksKeys (key ∷ keys) marks capacity → is_queued keys key ≡ false
alone keys marks capacity key kept = none-apart (nat_eq key) keys (IsDistinct-head nat_eq key keys kept.once)

-- the key at the head was taken
pub rest : (keys : List ℕ) (marks : List Bool) (capacity key : ℕ) → MarksKeys (key ∷ keys) marks capacity → MarksKeys keys (slice_set marks key false) capacity
rest keys marks capacity key kept = record {
  once = IsDistinct-tail nat_eq key keys kept.once;
  marked = λ q. ⊎_elim
      (λ equal. rw (eqb-true q key equal) (get_or-set_same marks key false false below ∙ sym (alone keys marks capacity key kept)))
      (λ differs. get_or-set_other marks key q false false (λ same. let bad : true ≡ false = sym (eq-eqb q key same)
      ∙ differs in cc) ∙ kept.marked q ∙ headless q differs)
      (cases_Bool (nat_eq q key));
  room = rw (length-set marks key false) kept.room;
}
  where
    below : key < length marks
    below = within (key ∷ keys) marks capacity key kept (itself key keys)

    headless : (q : ℕ) → nat_eq q key ≡ false → is_queued (key ∷ keys) q ≡ is_queued keys q
    headless q differs = rw differs refl

-- no key
pub none : (keys : List ℕ) (marks : List Bool) (capacity : ℕ) → keys ≡ [] → marks ≡ [] → MarksKeys keys marks capacity
unfolding IsDistinct
none keys marks capacity no_key no_mark = rw no_key (rw no_mark (record {
  once = tt;
  marked = λ q. get_or_past [] q false (omega arith);
  room = (omega arith);
}))

-- a key whose mark was read as none stands nowhere
pub unmarked : (keys : List ℕ) (marks : List Bool) (capacity key : ℕ) (mark : Bool) → MarksKeys keys marks capacity
    → mark ≡ slice_index_or marks key mark → mark ≡ false → is_queued keys key ≡ false
unmarked keys marks capacity key mark kept read clear = sym (kept.marked key) ∙ sym (subst (λ (b : Bool). b ≡ slice_index_or marks key b) clear read)

-- the same keys and marks, in a block that holds as many at least
pub larger : (keys now : List ℕ) (marks : List Bool) (capacity capacity_now : ℕ) → MarksKeys keys marks capacity
    → now ≡ keys → capacity ≤ capacity_now → MarksKeys now marks capacity_now
larger keys now marks capacity capacity_now kept same more = rw same (record {
  once = kept.once;
  marked = kept.marked;
  room = omega (arith, kept.room);
})
