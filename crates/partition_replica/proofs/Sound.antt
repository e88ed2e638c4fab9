-- What keeps a replica sound, and which addresses are then free.
use Rattle.std.proofs.Common.{◌≡◌, ℕ, ◌+◌, ◌-◌, ◌<◌, ◌≤◌, ◌==◌, nat_lt, Bool, true, false, cond, if◌then◌else◌, not}
use Rattle.std.proofs.Common.{◌&&◌, ◌||◌, ◌⊎◌, inl, inr, List, [], ◌∷◌, ◌++◌, length, take, drop, Option, Some, None}
use Rattle.std.proofs.Common.{refl, sym, ap, subst, ◌∙◌, append_assoc, append-nil, arith}
use Rattle.std.specs.Prelude.{T, All, IfSome}
use Rattle.std.specs.Cmp.Lexicographic.{slice_cmp}
use Rattle.std.specs.FinMap.Entries as entries
use Rattle.std.specs.Ordering.{nat_cmp}
use Rattle.std.proofs.lemmas.Bool.{cases_lt, false_from_ne_true}
use Rattle.std.proofs.lemmas.Bool.Decides.{nat_tests}
use Rattle.std.proofs.lemmas.List.Elements.{All-nil, All-push, All-tail}
use Rattle.group_types.specs.declared.run.Run.{Run}
use Rattle.group_message.specs.declared.update.Body.{Body}
use Rattle.group_message.specs.declared.update.Body.TheVariants.{Put, Remove, Touch}
use Rattle.group_message.specs.declared.update.Update.{Update}
use Rattle.item_index.specs.declared.slot.Slot.{Slot}
use Rattle.run_alloc.specs.Free.{AllFree, NoneFree}
use Rattle.run_alloc.proofs.Spread.{in_run-true, in_run-inside}
use Rattle.std.specs.List.{list_any}
use Rattle.group_run.specs.Free.{in_run, in_some_run, is_free}
use Rattle.group_run.specs.Replica.{Items, Replica, empty_replica, callers, slot_in, run_of, item_settled, items_after}
use Rattle.group_run.specs.Replica.{kept_after, applied_to, with_update, with_log}
use Rattle.group_run.specs.Replica.{freed_by}
use Rattle.group_run.specs.Fitting.{Writes, CanCome, AllCanCome}
use Rattle.partition_replica.specs.Sound.{log_runs, runs_of, owners, AreDisjointRuns, FreeTheirs, IsSoundReplica}
use Rattle.partition_replica.proofs.Owners.{weight, has, held, found_most, written, count_log, count_all}
use Rattle.partition_replica.proofs.Owners.{written-append, any_item, any_log, any_written, weight-in_run, freed_held}
use Rattle.partition_replica.proofs.Owners.{settled_count, freed_owned, outside, none_outside, all_inside, none_behind}

-- how many runs of items and of the log have the address
abbrev taken : Replica → ℕ → ℕ
taken r a = held (in_run a) r.items + written (in_run a) r.log

all_inside_space : (space : ℕ) (r : Replica) → IsSoundReplica space r → held (outside space) r.items + written (outside space) r.log ≡ 0
all_inside_space space r sound = sym (count_all (outside space) r.items r.log) ∙ none_outside space (runs_of r) sound.runs.inside

taken_once : (space : ℕ) (r : Replica) → IsSoundReplica space r → (a : ℕ) → taken r a ≤ 1
taken_once space r sound a = omega (arith, count_all (in_run a) r.items r.log, sound.runs.apart a)

taken_inside : (space : ℕ) (r : Replica) → IsSoundReplica space r → (a : ℕ) → 1 ≤ taken r a → a < space
taken_inside space r sound a some = decide (cases_lt a space) where
  decide : (a < space) ⊎ (space ≤ a) → a < space
  decide (inl below) = below
  decide (inr behind) =
      absurd (omega (
        arith,
        none_behind space a (runs_of r) behind,
        count_all (in_run a) r.items r.log,
        none_outside space (runs_of r) sound.runs.inside,
      ))

are_apart : (space : ℕ) (r : Replica) → held (outside space) r.items + written (outside space) r.log ≡ 0
    → ((a : ℕ) → taken r a ≤ 1) → AreDisjointRuns space (runs_of r)
are_apart space r inside once = record {
  inside = all_inside space (runs_of r) (count_all (outside space) r.items r.log ∙ inside);
  apart = λ a. omega (arith, count_all (in_run a) r.items r.log, once a);
}

-- the tests of `is_free` in one
one_test : (t f : Bool) (m n : ℕ) → (f ≡ true → 1 ≤ m + n) → (t && not (not (m == 0)) && not (not (n == 0)) && not f) ≡ (t && (m + n == 0))
one_test t true m n some = let one = some refl in grind (arith, nat_tests)
one_test t false m n some = grind (arith, nat_tests)

free_untaken : (space : ℕ) (r : Replica) → IsSoundReplica space r → (a : ℕ) → is_free space r a ≡ (nat_lt a space && (taken r a == 0))
free_untaken space r sound a =
    rw (any_item (in_run a) r.items, any_written a r.log)
    (one_test (nat_lt a space) _ (held (in_run a) r.items) (written (in_run a) r.log) (freed_owned a r.items r.log sound.frees))

pub sound_at_start : (space : ℕ) → IsSoundReplica space empty_replica
sound_at_start space = record {
  runs = record { inside = All-nil (λ run. run.at + run.len ≤ space); apart = λ a. omega arith };
  frees = tt;
  writes = All-nil (λ u. Writes space u.body);
  callers = All-nil (λ u. u.caller < callers);
}

-- in a sound replica the free addresses are those of the space that no run has
pub free_unowned : (space : ℕ) (r : Replica) → IsSoundReplica space r → (a : ℕ) → is_free space r a ≡ (nat_lt a space && (owners a (runs_of r) == 0))
free_unowned space r sound a = rw (count_all (in_run a) r.items r.log) (free_untaken space r sound a)

free_is : (space : ℕ) (r : Replica) → IsSoundReplica space r → (a : ℕ) → is_free space r a ≡ true → taken r a ≡ 0
free_is space r sound a free =
    let test : (nat_lt a space && (taken r a == 0)) ≡ true = sym (free_untaken space r sound a) ∙ free in
    grind (arith, nat_tests)

frees_push : (items : Items) (log : List Update) (u : Update) → FreeTheirs items log
    → u.frees ≡ freed_by u.body (slot_in (items_after items log) u.key) → FreeTheirs items (log ++ u ∷ [])
frees_push items [] u frees last = (last, tt)
frees_push items (x ∷ log) u frees last = (frees.0, frees_push (item_settled x items) log u frees.1 last)

new_free : (space : ℕ) (r : Replica) (run : Option Run) → IfSome run (λ run. AllFree (is_free space r) run.at run.len)
    → (a : ℕ) → in_some_run a run ≡ true → is_free space r a ≡ true
new_free space r None free a inside = cc
new_free space r (Some run) free a inside = let bounds = in_run-true run.at run.len a inside in free a bounds.0 bounds.1

new_inside : (space : ℕ) (body : Body) → Writes space body → weight (outside space) (run_of body) ≡ 0
new_inside space (Put flags until run delta) writes = let le = writes.inside in grind (arith, nat_tests)
new_inside space Remove writes = refl
new_inside space (Touch until) writes = refl

module _ (space : ℕ) (r : Replica) (u : Update) (sound : IsSoundReplica space r) (can : CanCome space r u) where
  new_once : (a : ℕ) → taken r a + weight (in_run a) (run_of u.body) ≤ 1
  new_once a = rw (weight-in_run a (run_of u.body)) (split (in_some_run a (run_of u.body)) refl) where
    split : (b : Bool) → in_some_run a (run_of u.body) ≡ b → taken r a + cond b 1 0 ≤ 1
    split true is = omega (arith, free_is space r sound a (new_free space r (run_of u.body) can.free a is))
    split false is = omega (arith, taken_once space r sound a)

  pub sound_with : IsSoundReplica space (with_update u r)
  sound_with = record {
    runs = are_apart space (with_update u r)
        (omega (arith, written-append (outside space) r.log (u ∷ []), all_inside_space space r sound, new_inside space u.body can.writes))
        (λ a. omega (arith, written-append (in_run a) r.log (u ∷ []), new_once a));
    frees = frees_push r.items r.log u sound.frees can.frees;
    writes = All-push (λ u. Writes space u.body) r.log u sound.writes can.writes;
    callers = All-push (λ u. u.caller < callers) r.log u sound.callers can.caller;
  }

  pub free_with : (a : ℕ) → is_free space (with_update u r) a ≡ (is_free space r a && not (in_some_run a (run_of u.body)))
  free_with a =
      rw (
        free_untaken space (with_update u r) sound_with a,
        free_untaken space r sound a,
        written-append (in_run a) r.log (u ∷ []),
        weight-in_run a (run_of u.body),
      )
      (test (nat_lt a space) (in_some_run a (run_of u.body)) (held (in_run a) r.items) (written (in_run a) r.log)) where
        test : (t b : Bool) (i w : ℕ) → (t && (i + (w + (cond b 1 0 + 0)) == 0)) ≡ (t && (i + w == 0) && not b)
        test t true i w = grind (arith, nat_tests)
        test t false i w = grind (arith, nat_tests)

pub sound_with_all : (space : ℕ) (r : Replica) (us : List Update) → IsSoundReplica space r → AllCanCome space r us
    → IsSoundReplica space (with_log (r.log ++ us) r)
sound_with_all space r [] sound can = subst (λ (l : List Update). IsSoundReplica space (with_log l r)) (sym (append-nil r.log)) sound
sound_with_all space r (u ∷ us) sound can =
    subst (λ (l : List Update). IsSoundReplica space (with_log l r)) (append_assoc r.log (u ∷ []) us)
    (sound_with_all space (with_update u r) us (sound_with space r u sound can.0) can.1)

pub sound_emptied : (space : ℕ) (r : Replica) → IsSoundReplica space r → IsSoundReplica space (with_log [] r)
sound_emptied space r sound = record {
  runs = are_apart space (with_log [] r) (omega (arith, all_inside_space space r sound)) (λ a. omega (arith, taken_once space r sound a));
  frees = tt;
  writes = All-nil (λ u. Writes space u.body);
  callers = All-nil (λ u. u.caller < callers);
}

-- the run of an item lies in the space
pub item_inside : (space : ℕ) (r : Replica) → IsSoundReplica space r → (key : List ℕ) → IfSome (slot_in r.items key) (λ slot. slot.at + slot.len ≤ space)
item_inside space r sound key = inside (slot_in r.items key) (omega (arith, found_most (outside space) key r.items, all_inside_space space r sound)) where
  inside : (found : Option Slot) → has (outside space) found ≡ 0 → IfSome found (λ slot. slot.at + slot.len ≤ space)
  inside None none = tt
  inside (Some slot) none = grind (arith, nat_tests)

pub log_inside : (space : ℕ) (r : Replica) → IsSoundReplica space r → All (λ run. run.at + run.len ≤ space) (log_runs r.log)
log_inside space r sound = all_inside space (log_runs r.log) (omega (arith, count_log (outside space) r.log, all_inside_space space r sound))

-- no address is in two runs of the log, and one that is free in none
pub givable : (space : ℕ) (r : Replica) → IsSoundReplica space r → (a : ℕ) → owners a (log_runs r.log) ≤ (if is_free space r a then 0 else 1)
givable space r sound a = rw (count_log (in_run a) r.log) (split (is_free space r a) refl) where
  split : (b : Bool) → is_free space r a ≡ b → written (in_run a) r.log ≤ (if b then 0 else 1)
  split true is = omega (arith, free_is space r sound a is)
  split false is = omega (arith, taken_once space r sound a)

-- the tests before and after the log's runs are given back
given_test : (a space i w : ℕ) → i + w ≤ 1 → (1 ≤ i + w → a < space) → (nat_lt a space && (i + 0 == 0)) ≡ ((nat_lt a space && (i + w == 0)) || not (w == 0))
given_test a space i w once inside = grind (arith, nat_tests)

pub free_emptied : (space : ℕ) (r : Replica) → IsSoundReplica space r → (a : ℕ) → is_free space (with_log [] r) a
    ≡ (is_free space r a || list_any (in_run a) (log_runs r.log))
free_emptied space r sound a =
    rw (free_untaken space (with_log [] r) (sound_emptied space r sound) a, free_untaken space r sound a, any_log (in_run a) r.log)
    (given_test a space (held (in_run a) r.items) (written (in_run a) r.log) (taken_once space r sound a) (taken_inside space r sound a))

-- an address of the log's runs is free once the log is empty
pub takeable : (space : ℕ) (r : Replica) (us : List Update) → IsSoundReplica space (with_log us r) → (a : ℕ)
    → owners a (log_runs us) ≤ (if is_free space (with_log [] r) a then 1 else 0)
takeable space r us sound a =
    rw (count_log (in_run a) us, free_untaken space (with_log [] r) (sound_emptied space (with_log us r) sound) a)
    (test (held (in_run a) r.items) (written (in_run a) us) (taken_once space (with_log us r) sound a) (taken_inside space (with_log us r) sound a)) where
      test : (i w : ℕ) → i + w ≤ 1 → (1 ≤ i + w → a < space) → w ≤ (if nat_lt a space && (i + 0 == 0) then 1 else 0)
      test i w once inside = grind (arith, nat_tests)

pub free_refilled : (space : ℕ) (r : Replica) (us : List Update) → IsSoundReplica space (with_log us r) → (a : ℕ)
    → is_free space (with_log us r) a ≡ (is_free space (with_log [] r) a && not (list_any (in_run a) (log_runs us)))
free_refilled space r us sound a =
    rw (free_untaken space (with_log us r) sound a, free_untaken space (with_log [] r) (sound_emptied space (with_log us r) sound) a, any_log (in_run a) us)
    (test (held (in_run a) r.items) (written (in_run a) us)) where
      test : (i w : ℕ) → (nat_lt a space && (i + w == 0)) ≡ ((nat_lt a space && (i + 0 == 0)) && not (not (w == 0)))
      test i w = grind (arith, nat_tests)

-- the replica with its first update settled and us left
abbrev settled : Update → List Update → Replica → Replica
settled u us r = record { items = item_settled u r.items; applied = r.applied + 1; log = us; kept = kept_after r.kept (u ∷ []) }

pub settled_first : (r : Replica) (u : Update) (us : List Update) → r.log ≡ u ∷ us → applied_to (r.applied + 1) r
    ≡ record { items = item_settled u r.items; applied = r.applied + 1; log = us; kept = kept_after r.kept (u ∷ []) }
settled_first r u us is =
    let one : r.applied + 1 - r.applied ≡ 1 = omega arith in
    ap (λ (l : List Update). applied_to (r.applied + 1) (with_log l r)) is
    ∙ ap (λ (n : ℕ). record {
      items = items_after r.items (take n (u ∷ us));
      applied = r.applied + length (take n (u ∷ us));
      log = drop n (u ∷ us);
      kept =
          kept_after r.kept (take n (u ∷ us));
    }) one

pub settled_none : (r : Replica) → r.log ≡ [] → applied_to (r.applied + 1) r ≡ r
settled_none r none =
    let one : r.applied + 1 - r.applied ≡ 1 = omega arith in
    let same : r.applied + 0 ≡ r.applied = omega arith in
    ap (λ (l : List Update). applied_to (r.applied + 1) (with_log l r)) none
    ∙ ap (λ (n : ℕ). record {
      items = items_after r.items (take n []);
      applied = r.applied + length (take {A = Update} n []);
      log = drop n [];
      kept = kept_after r.kept (take n []);
    })
    one
    ∙ (λ i. record { items = r.items; applied = same i; log = sym none i; kept = r.kept })

module _ (space : ℕ) (r : Replica) (u : Update) (us : List Update)
    (sorted : T (entries.is_sorted (slice_cmp nat_cmp) r.items)) (is : r.log ≡ u ∷ us) (sound : IsSoundReplica space r) where
  -- the replica, its log written out
  abbrev whole : Replica
  whole = with_log (u ∷ us) r

  whole_sound : IsSoundReplica space whole
  whole_sound = subst (λ (l : List Update). IsSoundReplica space (with_log l r)) is sound

  whole_free : (a : ℕ) → is_free space r a ≡ (nat_lt a space && (taken whole a == 0))
  whole_free a = ap (λ (l : List Update). is_free space (with_log l r) a) is ∙ free_untaken space whole whole_sound a

  count : (p : Run → Bool) → held p (item_settled u r.items) + weight p u.frees ≡ held p r.items + weight p (run_of u.body)
  count p = settled_count p u r.items sorted whole_sound.frees.0

  first_sound : IsSoundReplica space (settled u us r)
  first_sound = record {
    runs = are_apart space (settled u us r)
        (omega (arith, count (outside space), all_inside_space space whole whole_sound))
        (λ a. omega (arith, count (in_run a), taken_once space whole whole_sound a));
    frees = whole_sound.frees.1;
    writes = All-tail (λ u. Writes space u.body) u us whole_sound.writes;
    callers = All-tail (λ u. u.caller < callers) u us whole_sound.callers;
  }

  pub sound_settled : IsSoundReplica space (applied_to (r.applied + 1) r)
  sound_settled = rw (settled_first r u us is) first_sound

  pub free_settled : (a : ℕ) → is_free space (applied_to (r.applied + 1) r) a ≡ (is_free space r a || in_some_run a u.frees)
  free_settled a =
      ap (λ (q : Replica). is_free space q a) (settled_first r u us is)
      ∙ rw (free_untaken space (settled u us r) first_sound a, whole_free a)
      (test (in_some_run a u.frees) refl) where
        test : (b : Bool) → in_some_run a u.frees ≡ b → (nat_lt a space && (taken (settled u us r) a == 0)) ≡ ((nat_lt a space && (taken whole a == 0)) || b)
        test b freed =
            let one : weight (in_run a) u.frees ≡ cond b 1 0 = weight-in_run a u.frees ∙ ap (λ (b : Bool). cond b 1 0) freed in
            given b _ _ _ _ (taken_once space whole whole_sound a) (taken_inside space whole whole_sound a)
            (ap (λ (n : ℕ). held (in_run a) (item_settled u r.items) + n) (sym one) ∙ count (in_run a)) where
              given : (b : Bool) (i j x w : ℕ) → i + (x + w) ≤ 1 → (1 ≤ i + (x + w) → a < space)
                  → j + cond b 1 0 ≡ i + x → (nat_lt a space && (j + w == 0))
                  ≡ ((nat_lt a space && (i + (x + w) == 0)) || b)
              given true i j x w once inside sums = grind (arith, nat_tests)
              given false i j x w once inside sums = grind (arith, nat_tests)

  freed : (p : Run → Bool) → weight p u.frees ≤ held p r.items
  freed p = freed_held p u r.items whole_sound.frees.0

  pub freed_inside : IfSome u.frees (λ run. run.at + run.len ≤ space)
  freed_inside = inside u.frees (omega (arith, freed (outside space), all_inside_space space whole whole_sound)) where
    inside : (run : Option Run) → weight (outside space) run ≡ 0 → IfSome run (λ run. run.at + run.len ≤ space)
    inside None none = tt
    inside (Some run) none = grind (arith, nat_tests)

  pub freed_taken : IfSome u.frees (λ run. NoneFree (is_free space r) run.at run.len)
  freed_taken = none u.frees (λ a. freed (in_run a)) where
    none : (run : Option Run) → ((a : ℕ) → weight (in_run a) run ≤ held (in_run a) r.items) → IfSome run (λ run. NoneFree (is_free space r) run.at run.len)
    none None most = tt
    none (Some run) most = λ a low high.
        let one : weight (in_run a) (Some run) ≡ 1 = ap (λ (b : Bool). cond b 1 0) (in_run-inside run.at run.len a low high) in
        false_from_ne_true (is_free space r a) (λ free. omega (arith, most a, free_is space r sound a free))
