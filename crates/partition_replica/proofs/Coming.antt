-- Which addresses are free once a log is applied up to a number.
use Rattle.std.proofs.Common.{◌≡◌, ℕ, zero, suc, ◌+◌, ◌-◌, ◌≤◌, nat_le, Bool, true, false, not, ◌||◌, if◌then◌else◌}
use Rattle.std.proofs.Common.{List, [], ◌∷◌, length, take, drop, Option, Some, None, refl, sym, ap, ◌∙◌, subst, arith}
use Rattle.std.specs.Prelude.{T}
use Rattle.std.specs.Cmp.Lexicographic.{slice_cmp}
use Rattle.std.specs.FinMap.Entries as entries
use Rattle.std.specs.FinMap.Entries.{is_sorted-put, is_sorted-where_key}
use Rattle.std.specs.List.{list_any}
use Rattle.std.specs.Ordering.{nat_cmp}
use Rattle.std.proofs.lemmas.Bool.Decides.{nat_tests}
use Rattle.std.proofs.lemmas.Cmp.{nat_list_cmp_total}
use Rattle.group_types.specs.Lists.{same_key}
use Rattle.group_message.specs.declared.update.Update.{Update}
use Rattle.item_index.specs.declared.slot.Slot.{Slot}
use Rattle.request_log.specs.Logged.{IsNumbered}
use Rattle.group_run.specs.Free.{in_run, in_some_run, is_free}
use Rattle.group_run.specs.Replica.{Items, Replica, applied_to, item_settled, items_after, kept_after, run_of, slot_after, slot_in, with_log, with_slot}
use Rattle.partition_replica.specs.Coming.{is_returned, once_applied}
use Rattle.partition_replica.specs.Sound.{IsSoundReplica, log_runs}
use Rattle.partition_replica.proofs.Owners.{any_log, any_written}
use Rattle.partition_replica.proofs.Sound.{free_emptied, free_settled, settled_first, sound_settled}

abbrev pub Sorted : Items → Type 0
Sorted items = T (entries.is_sorted (slice_cmp nat_cmp) items)

sorted_with : (key : List ℕ) (w : Option Slot) (items : Items) → Sorted items → Sorted (with_slot key w items)
sorted_with key None items sorted = is_sorted-where_key (slice_cmp nat_cmp) (λ x. not (same_key key x)) items sorted
sorted_with key (Some slot) items sorted = is_sorted-put (slice_cmp nat_cmp) nat_list_cmp_total key slot items sorted

-- the replica with the first k updates of its log settled
abbrev after : ℕ → Replica → Replica
after k r =
    let first = take k r.log in
    record { items = items_after r.items first; applied = r.applied + length first; log = drop k r.log; kept = kept_after r.kept first }

-- soundness asks for items and log alone
same_parts : (space : ℕ) (r q : Replica) → r.items ≡ q.items → r.log ≡ q.log → IsSoundReplica space r → IsSoundReplica space q
same_parts space r q items log sound =
    subst (λ (x : Replica). IsSoundReplica space (record q { items = x.items; log = x.log })) (λ i. record q { items = items i; log = log i })
    (record { runs = sound.runs; frees = sound.frees; writes = sound.writes; callers = sound.callers })

assoc : (a b c : Bool) → ((a || b) || c) ≡ (a || (b || c))
assoc true b c = refl
assoc false b c = refl

or_none : (a : Bool) → a ≡ (a || false)
or_none true = refl
or_none false = refl

-- whether one of the updates frees the address
abbrev is_freed : List Update → ℕ → Bool
is_freed us a = list_any (λ u. in_some_run a u.frees) us

module _ (space : ℕ) where
  module _ (u : Update) (us : List Update) (r : Replica) (sorted : Sorted r.items) (sound : IsSoundReplica space (with_log (u ∷ us) r)) where
    -- with the first update settled
    abbrev next : Replica
    next = record { items = item_settled u r.items; applied = r.applied + 1; log = us; kept = kept_after r.kept (u ∷ []) }

    next_is : applied_to (r.applied + 1) (with_log (u ∷ us) r) ≡ next
    next_is = settled_first (with_log (u ∷ us) r) u us refl

    next_sorted : Sorted next.items
    next_sorted = sorted_with u.key (slot_after u.number u.body (slot_in r.items u.key)) r.items sorted

    next_sound : IsSoundReplica space next
    next_sound = subst (λ (q : Replica). IsSoundReplica space q) next_is (sound_settled space (with_log (u ∷ us) r) u us sorted refl sound)

    next_free : (a : ℕ) → is_free space next a ≡ (is_free space (with_log (u ∷ us) r) a || in_some_run a u.frees)
    next_free a = sym (ap (λ (q : Replica). is_free space q a) next_is) ∙ free_settled space (with_log (u ∷ us) r) u us sorted refl sound a

  sound_after : (k : ℕ) (log : List Update) (r : Replica) → Sorted r.items → IsSoundReplica space (with_log log r)
      → IsSoundReplica space (after k (with_log log r))
  sound_after zero log r sorted sound = same_parts space (with_log log r) (after 0 (with_log log r)) refl refl sound
  sound_after (suc k) [] r sorted sound = same_parts space (with_log [] r) (after (suc k) (with_log [] r)) refl refl sound
  sound_after (suc k) (u ∷ us) r sorted sound =
      same_parts space (after k (next u us r sorted sound)) (after (suc k) (with_log (u ∷ us) r)) refl refl
      (sound_after k us (next u us r sorted sound) (next_sorted u us r sorted sound) (next_sound u us r sorted sound))

  free_after : (k : ℕ) (log : List Update) (r : Replica) → Sorted r.items → IsSoundReplica space (with_log log r)
      → (a : ℕ) → is_free space (after k (with_log log r)) a ≡ (is_free space (with_log log r) a || is_freed (take k log) a)
  free_after zero log r sorted sound a = or_none _
  free_after (suc k) [] r sorted sound a = or_none _
  free_after (suc k) (u ∷ us) r sorted sound a =
      free_after k us (next u us r sorted sound) (next_sorted u us r sorted sound) (next_sound u us r sorted sound) a
      ∙ ap (λ (b : Bool). b || is_freed (take k us) a) (next_free u us r sorted sound a)
      ∙ assoc (is_free space (with_log (u ∷ us) r) a) (in_some_run a u.frees) (is_freed (take k us) a)

  pub sound_applied : (n : ℕ) (r : Replica) → Sorted r.items → IsSoundReplica space r → IsSoundReplica space (applied_to n r)
  sound_applied n r sorted sound = sound_after (n - r.applied) r.log r sorted sound

  free_dropped : (n : ℕ) (r : Replica) → Sorted r.items → IsSoundReplica space r
      → (a : ℕ)
      → is_free space (with_log [] (applied_to n r)) a
      ≡ (is_free space r a || (is_freed (take (n - r.applied) r.log) a || list_any (in_run a) (log_runs (drop (n - r.applied) r.log))))
  free_dropped n r sorted sound a =
      free_emptied space (applied_to n r) (sound_applied n r sorted sound) a
      ∙ ap (λ (b : Bool). b || list_any (in_run a) (log_runs (drop (n - r.applied) r.log))) (free_after (n - r.applied) r.log r sorted sound a)
      ∙ assoc (is_free space r a) (is_freed (take (n - r.applied) r.log) a) (list_any (in_run a) (log_runs (drop (n - r.applied) r.log)))

-- the addresses that come back of updates which aren't applied
abbrev is_dropped : Bool → List Update → ℕ → Bool
is_dropped true us a = list_any (λ u. in_some_run a (run_of u.body)) us
is_dropped false us a = false

dropped_cons : (drops : Bool) (u : Update) (us : List Update) (a : ℕ)
    → (in_some_run a (if drops then run_of u.body else None) || is_dropped drops us a) ≡ is_dropped drops (u ∷ us) a
dropped_cons true u us a = refl
dropped_cons false u us a = refl

dropped_none : (drops : Bool) (a : ℕ) → false ≡ is_dropped drops [] a
dropped_none true a = refl
dropped_none false a = refl

module _ (drops : Bool) (n a : ℕ) where
  -- above the number
  returned_above : (log : List Update) (base : ℕ) → IsNumbered (λ u. u.number) base log → n ≤ base → is_returned drops n log a ≡ is_dropped drops log a
  returned_above [] base numbered le = dropped_none drops a
  returned_above (u ∷ us) base numbered le =
      let out : nat_le u.number n ≡ false = grind (arith, nat_tests, numbered.0) in
      rw out (ap (λ (b : Bool). in_some_run a (if drops then run_of u.body else None) || b) (returned_above us (base + 1) numbered.1 (omega arith))
      ∙ dropped_cons drops u us a)

  returned_parts : (k : ℕ) (log : List Update) (base : ℕ) → IsNumbered (λ u. u.number) base log → k ≡ n - base
      → is_returned drops n log a ≡ (is_freed (take k log) a || is_dropped drops (drop k log) a)
  returned_parts zero log base numbered is = returned_above log base numbered (omega arith)
  returned_parts (suc k) [] base numbered is = dropped_none drops a
  returned_parts (suc k) (u ∷ us) base numbered is =
      let out : nat_le u.number n ≡ true = grind (arith, nat_tests, numbered.0) in
      rw out (ap (λ (b : Bool). in_some_run a u.frees || b) (returned_parts k us (base + 1) numbered.1 (omega arith))
      ∙ sym (assoc (in_some_run a u.frees) (is_freed (take k us) a) (is_dropped drops (drop k us) a)))

-- an address is free then if it is free now, or comes back
pub free_once : (space : ℕ) (drops : Bool) (n : ℕ) (r : Replica) → Sorted r.items → IsSoundReplica space r → IsNumbered (λ u. u.number) r.applied r.log
    → (a : ℕ) → is_free space (once_applied drops n r) a ≡ (is_free space r a || is_returned drops n r.log a)
free_once space false n r sorted sound numbered a =
    free_after space (n - r.applied) r.log r sorted sound a
    ∙ ap (λ (b : Bool). is_free space r a || b) (or_none _ ∙ sym (returned_parts false n a (n - r.applied) r.log r.applied numbered refl))
free_once space true n r sorted sound numbered a =
    free_dropped space n r sorted sound a
    ∙ ap (λ (b : Bool). is_free space r a || b)
    (ap (λ (b : Bool). is_freed (take (n - r.applied) r.log) a || b)
    (any_log (in_run a) (drop (n - r.applied) r.log) ∙ sym (any_written a (drop (n - r.applied) r.log)))
    ∙ sym (returned_parts true n a (n - r.applied) r.log r.applied numbered refl))

-- what is free now is free then
pub free_stays : (space : ℕ) (drops : Bool) (n : ℕ) (r : Replica) → Sorted r.items → IsSoundReplica space r
    → (a : ℕ) → is_free space r a ≡ true → is_free space (once_applied drops n r) a ≡ true
free_stays space false n r sorted sound a free =
    free_after space (n - r.applied) r.log r sorted sound a
    ∙ ap (λ (b : Bool). b || is_freed (take (n - r.applied) r.log) a) free
free_stays space true n r sorted sound a free =
    free_dropped space n r sorted sound a
    ∙ ap (λ (b : Bool). b || (is_freed (take (n - r.applied) r.log) a || list_any (in_run a) (log_runs (drop (n - r.applied) r.log)))) free
