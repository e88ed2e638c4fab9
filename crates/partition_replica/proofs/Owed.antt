-- The keys that are ready, and those of them that a process has to tidy yet.
use Rattle.std.proofs.Common.{◌≡◌, ℕ, zero, suc, ◌<◌, Bool, true, false, ◌||◌, ◌&&◌, not, cond, List, [], ◌∷◌, ◌++◌}
use Rattle.std.proofs.Common.{length, get_or, Option, Some, None, if◌then◌else◌, refl, sym, ap, ◌∙◌, subst, arith}
use mathlib.Core.Bool.{false≢true}
use Rattle.std.proofs.Math.Bool.{or-true}
use Rattle.std.proofs.lemmas.Cmp.{nat_list_cmp_total}
use Rattle.std.specs.Cmp.Lexicographic.{slice_cmp}
use Rattle.std.specs.FinMap.Entries.{find-put, find-where_key}
use Rattle.std.specs.Ordering.{nat_cmp}
use Rattle.group_message.specs.declared.update.Update.{Update}
use Rattle.item_index.specs.declared.slot.Slot.{Slot}
use Rattle.std.specs.Prelude.{is_some}
use Rattle.group_types.specs.Lists.{same_key}
use Rattle.group_run.specs.Replica.{Items, Replica, item_settled, number_on, slot_after, slot_in, with_slot}
use Rattle.partition_replica.specs.State.{GrowsFor, IsTidyBut, ReplicaState, is_among, is_needed, is_touched}
use Rattle.partition_replica.proofs.Keys.{swapped, tied}

-- the key of an update is touched
pub touched_at : (us : List Update) (i : ℕ) (u : Update) (q : List ℕ) → i < length us → u ≡ get_or us i u → same_key u.key q ≡ true → is_touched us q ≡ true
touched_at [] i u q lt is same = absurd (omega arith)
touched_at (v ∷ us) zero u q lt is same = ap (λ (b : Bool). b || is_touched us q) (sym (ap (λ (w : Update). same_key w.key q) is) ∙ same)
touched_at (v ∷ us) (suc i) u q lt is same = ap (λ (b : Bool). same_key v.key q || b) (touched_at us i u q (omega arith) is same) ∙ or-true (same_key v.key q)

-- one more key is made ready
pub most_next : (same was now first touched : Bool) → now ≡ (same || was) → (was ≡ true → (first || touched) ≡ true)
    → (same ≡ true → touched ≡ true) → now ≡ true → (first || touched) ≡ true
most_next true was now first touched is held own ready = ap (λ (b : Bool). first || b) (own refl) ∙ or-true first
most_next false was now first touched is held own ready = held (sym is ∙ ready)

-- the tests that say what stays owed
reserve_test : (was touched needed owed : Bool) → (was || touched) ≡ true → (was ≡ true → (needed || owed) ≡ true) → (needed || (owed || touched)) ≡ true
reserve_test true t true o is held = refl
reserve_test true t false true is held = refl
reserve_test true t false false is held = absurd (false≢true (held refl))
reserve_test false true true o is held = refl
reserve_test false true false true is held = refl
reserve_test false true false false is held = refl
reserve_test false false n o is held = absurd (false≢true is)

settle_test : (slot slot' number number' owed same : Bool) → (same ≡ false → slot' ≡ slot)
    → (same ≡ false → number ≡ number') → ((slot || number) || owed) ≡ true → ((slot' || number') || (owed || same))
    ≡ true
settle_test s s' n n' o true slots numbers held = ap (λ (b : Bool). (s' || n') || b) (or-true o) ∙ or-true (s' || n')
settle_test s s' n n' true false slots numbers held = or-true (s' || n')
settle_test s s' n n' false false slots numbers held = ap (λ (b : Bool). (b || n') || false) (slots refl)
    ∙ ap (λ (b : Bool). (s || b) || false) (sym (numbers refl)) ∙ held

tidy_test : (ready was same needed owed : Bool) → ready ≡ (was && (not same || needed))
    → (was ≡ true → (needed || owed) ≡ true) → ready ≡ true → (needed || (owed && not same)) ≡ true
tidy_test r true same true o is held ready = refl
tidy_test r true true false o is held ready = absurd (false≢true (sym is ∙ ready))
tidy_test r true false false true is held ready = refl
tidy_test r true false false false is held ready = absurd (false≢true (held refl))
tidy_test r false same n o is held ready = absurd (false≢true (sym is ∙ ready))

adopt_test : (ready was touched slot number owed number' : Bool) → ready ≡ (was && (not touched || (slot || number')))
    → (number ≡ true → touched ≡ true) → (was ≡ true → ((slot || number) || owed) ≡ true) → ready ≡ true
    → ((slot || number') || owed) ≡ true
adopt_test r w t true n o n' is dropped held ready = refl
adopt_test r w t false n true n' is dropped held ready = or-true n'
adopt_test r false t false n false n' is dropped held ready = absurd (false≢true (sym is ∙ ready))
adopt_test r true true false n false true is dropped held ready = refl
adopt_test r true true false n false false is dropped held ready = absurd (false≢true (sym is ∙ ready))
adopt_test r true false false true false n' is dropped held ready = absurd (false≢true (dropped refl))
adopt_test r true false false false false n' is dropped held ready = absurd (false≢true (held refl))

number_pushed : (log : List Update) (u : Update) (q : List ℕ) → is_some (number_on log q) ≡ true → is_some (number_on (log ++ u ∷ []) q) ≡ true
number_pushed [] u q is = absurd (false≢true is)
number_pushed (v ∷ log) u q is = later (number_on log q) (number_on (log ++ u ∷ []) q) (same_key v.key q) (number_pushed log u q) is where
  later : (old new : Option ℕ) (b : Bool) → (is_some old ≡ true → is_some new ≡ true)
      → is_some (elim old [ Some n ↦ Some n | None ↦ if b then Some v.number else None ]) ≡ true
      → is_some (elim new [ Some n ↦ Some n | None ↦ if b then Some v.number else None ]) ≡ true
  later old (Some n) b keeps is = refl
  later None None b keeps is = is
  later (Some n) None b keeps is = absurd (false≢true (keeps refl))

first_number : (u : Update) (us : List Update) (q : List ℕ) → same_key u.key q ≡ false → is_some (number_on (u ∷ us) q) ≡ is_some (number_on us q)
first_number u us q other = skip (number_on us q) (same_key u.key q) other where
  skip : (m : Option ℕ) (b : Bool) → b ≡ false → is_some (elim m [ Some n ↦ Some n | None ↦ if b then Some u.number else None ]) ≡ is_some m
  skip None true other = absurd (false≢true (sym other))
  skip None false other = refl
  skip (Some n) b other = refl

touched_number : (log : List Update) (q : List ℕ) → is_some (number_on log q) ≡ true → is_touched log q ≡ true
touched_number [] q is = absurd (false≢true is)
touched_number (v ∷ log) q is = either (number_on log q) (same_key v.key q) (is_touched log q) (touched_number log q) is where
  either : (m : Option ℕ) (b t : Bool) → (is_some m ≡ true → t ≡ true)
      → is_some (elim m [ Some n ↦ Some n | None ↦ if b then Some v.number else None ]) ≡ true → (b || t) ≡ true
  either m true t from is = refl
  either None false t from is = absurd (false≢true is)
  either (Some n) false t from is = from refl

-- the item on another key stays
other_slot : (key q : List ℕ) (w : Option Slot) (items : Items) → same_key key q ≡ false → slot_in (with_slot key w items) q ≡ slot_in items q
other_slot key q None items other =
    find-where_key (slice_cmp nat_cmp) (λ x. not (same_key key x)) q (λ x tie. ap (λ (k : List ℕ). not (same_key key k)) (sym (tied q x tie))) items
    ∙ ap (λ (b : Bool). cond (not b) (slot_in items q) None) other
other_slot key q (Some slot) items other =
    find-put (slice_cmp nat_cmp) nat_list_cmp_total q key slot items ∙ ap (λ (b : Bool). cond b (Some slot) (slot_in items q)) (swapped q key ∙ other)

pub tidy_reserved : (s t : ReplicaState) (us : List Update) (owed : List ℕ → Bool) → t.replica ≡ s.replica
    → GrowsFor s.room t.room us → IsTidyBut s owed → IsTidyBut t (λ q. owed q || is_touched us q)
tidy_reserved s t us owed same grows tidy q is =
    subst (λ (r : Replica). (is_needed r.items r.log q || (owed q || is_touched us q)) ≡ true) (sym same)
    (reserve_test (is_among s.room.ready q) (is_touched us q) (is_needed s.replica.items s.replica.log q) (owed q) (grows.ready q is) (tidy q))

pub tidy_received : (s : ReplicaState) (u : Update) (owed : List ℕ → Bool) → IsTidyBut s owed → (q : List ℕ) → is_among s.room.ready q ≡ true
    → (is_needed s.replica.items (s.replica.log ++ u ∷ []) q || owed q) ≡ true
tidy_received s u owed tidy q is = keeps (is_some (slot_in s.replica.items q)) _ _ (owed q) (number_pushed s.replica.log u q) (tidy q is) where
  keeps : (slot old new o : Bool) → (old ≡ true → new ≡ true) → ((slot || old) || o) ≡ true → ((slot || new) || o) ≡ true
  keeps true old new o from held = refl
  keeps false true new o from held = ap (λ (b : Bool). b || o) (from refl)
  keeps false false true o from held = refl
  keeps false false false o from held = held

pub tidy_settled : (s : ReplicaState) (u : Update) (us : List Update) (owed : List ℕ → Bool) → s.replica.log ≡ u ∷ us
    → IsTidyBut s owed → (q : List ℕ) → is_among s.room.ready q ≡ true
    → (is_needed (item_settled u s.replica.items) us q || (owed q || is_touched (u ∷ []) q)) ≡ true
tidy_settled s u us owed first tidy q is =
    subst (λ (b : Bool). (is_needed (item_settled u s.replica.items) us q || (owed q || b)) ≡ true)
    (alone (same_key u.key q)) (
    let held = subst (λ (l : List Update). (is_needed s.replica.items l q || owed q) ≡ true) first (tidy q is) in
    settle_test (is_some (slot_in s.replica.items q)) _ (is_some (number_on (u ∷ us) q)) _ (owed q) (same_key u.key q)
    (λ other. ap is_some (other_slot u.key q (slot_after u.number u.body (slot_in s.replica.items u.key))
    s.replica.items other)) (first_number u us q) held) where
      alone : (b : Bool) → b ≡ (b || false)
      alone true = refl
      alone false = refl

pub tidy_adopted : (s : ReplicaState) (ready : List (List ℕ)) (log : List Update) (owed : List ℕ → Bool)
    → ((q : List ℕ) → is_among ready q ≡ (is_among s.room.ready q && (not (is_touched s.replica.log q) || is_needed s.replica.items log q)))
    → IsTidyBut s owed → (q : List ℕ) → is_among ready q ≡ true → (is_needed s.replica.items log q || owed q) ≡ true
tidy_adopted s ready log owed kept tidy q is =
    adopt_test (is_among ready q) (is_among s.room.ready q) (is_touched s.replica.log q)
    (is_some (slot_in s.replica.items q)) (is_some (number_on s.replica.log q)) (owed q) (is_some (number_on log q))
    (kept q) (touched_number s.replica.log q) (tidy q) is

pub tidy_tidied : (s : ReplicaState) (ready : List (List ℕ)) (key : List ℕ) (owed : List ℕ → Bool)
    → ((q : List ℕ) → is_among ready q ≡ (is_among s.room.ready q && (not (same_key key q) || is_needed s.replica.items s.replica.log q)))
    → IsTidyBut s owed → (q : List ℕ) → is_among ready q ≡ true → (is_needed s.replica.items s.replica.log q || (owed q && not (same_key key q))) ≡ true
tidy_tidied s ready key owed kept tidy q is =
    tidy_test (is_among ready q) (is_among s.room.ready q) (same_key key q) (is_needed s.replica.items s.replica.log q) (owed q) (kept q) (tidy q) is
