-- Updates whose runs are taken or given back, one after the other.
use Rattle.std.proofs.Common.{◌≡◌, ℕ, ◌+◌, ◌≤◌, ◌==◌, Bool, true, false, not, ◌&&◌, ◌||◌, cond, if◌then◌else◌, List, []}
use Rattle.std.proofs.Common.{◌∷◌, length, All, Option, Some, None, refl, sym, ap, ◌∙◌, arith}
use Rattle.std.specs.Prelude.{IfSome}
use Rattle.std.proofs.lemmas.Bool.Decides.{nat_tests}
use Rattle.group_types.specs.declared.run.Run.{Run}
use Rattle.group_message.specs.declared.update.Update.{Update}
use Rattle.run_alloc.specs.Free.{AddressSpace, AllFree, NoneFree, is_free_address}
use Rattle.run_alloc.proofs.Spread.{in_run-inside}
use Rattle.group_run.specs.Free.{in_run, in_some_run}
use Rattle.std.specs.List.{list_any}
use Rattle.group_run.specs.Replica.{run_of}
use Rattle.partition_replica.specs.Moves.{GivesAddresses, TakesAddresses}
use Rattle.partition_replica.specs.Sound.{log_runs, owners}
use Rattle.partition_replica.proofs.Owners.{weight, weight-in_run, written, count_log, any_log, outside, none_outside}

-- between the runs that were taken and those that are left
pub record Taking (start now : AddressSpace) (all left : List Update) : Type 0 where
  pub size : now.size ≡ start.size
  pub free : (a : ℕ) → written (in_run a) left ≤ (if is_free_address now a then 1 else 0)
  pub gone : (a : ℕ) → (is_free_address now a && (written (in_run a) left == 0)) ≡ (is_free_address start a && (written (in_run a) all == 0))
  pub spare : start.spare + length left ≤ now.spare + length all

pub record Giving (start now : AddressSpace) (all left : List Update) : Type 0 where
  pub size : now.size ≡ start.size
  pub inside : written (outside start.size) left ≡ 0
  pub taken : (a : ℕ) → written (in_run a) left ≤ (if is_free_address now a then 0 else 1)
  pub back : (a : ℕ) → (is_free_address now a || not (written (in_run a) left == 0)) ≡ (is_free_address start a || not (written (in_run a) all == 0))
  pub spare : start.spare + length left ≤ now.spare + length all

pub taking_start : (start : AddressSpace) (all : List Update) → ((a : ℕ) → owners a (log_runs all) ≤ (if is_free_address start a then 1 else 0))
    → Taking start start all all
taking_start start all free = record { size = refl; free = λ a. rw (count_log (in_run a) all) at (free a); gone = λ a. refl; spare = omega arith }

pub giving_start : (start : AddressSpace) (all : List Update) → All (λ r. r.at + r.len ≤ start.size) (log_runs all)
    → ((a : ℕ) → owners a (log_runs all) ≤ (if is_free_address start a then 0 else 1)) → Giving start start all all
giving_start start all inside taken = record {
  size = refl;
  inside = sym (count_log (outside start.size) all) ∙ none_outside start.size (log_runs all) inside;
  taken = λ a. rw (count_log (in_run a) all) at (taken a);
  back = λ a. refl;
  spare = omega arith;
}

module _ (start now : AddressSpace) (all left : List Update) (u : Update) where
  has : (a : ℕ) → written (in_run a) (u ∷ left) ≡ cond (in_some_run a (run_of u.body)) 1 0 + written (in_run a) left
  has a = ap (λ (n : ℕ). n + written (in_run a) left) (weight-in_run a (run_of u.body))

  module _ (at : Taking start now all (u ∷ left)) where
    free_own : (a : ℕ) → in_some_run a (run_of u.body) ≡ true → is_free_address now a ≡ true
    free_own a inside = test (is_free_address now a) _ _ inside (rw (has a) at (at.free a)) where
      test : (f b : Bool) (n : ℕ) → b ≡ true → cond b 1 0 + n ≤ (if f then 1 else 0) → f ≡ true
      test true b n is le = refl
      test false true n is le = absurd (omega arith)
      test false false n is le = cc

    pub taking_free : IfSome (run_of u.body) (λ r. AllFree (is_free_address now) r.at r.len)
    taking_free = all_free (run_of u.body) free_own where
      all_free : (run : Option Run) → ((a : ℕ) → in_some_run a run ≡ true → is_free_address now a ≡ true)
          → IfSome run (λ r. AllFree (is_free_address now) r.at r.len)
      all_free None free = tt
      all_free (Some run) free = λ a low high. free a (in_run-inside run.at run.len a low high)

    pub taking_next : (next : AddressSpace) → TakesAddresses now next (λ a. in_some_run a (run_of u.body)) 1 → Taking start next all left
    taking_next next takes = record {
      size = takes.size ∙ at.size;
      free = λ a. rw (takes.free a) (once (is_free_address now a) _ _ (rw (has a) at (at.free a)));
      gone = λ a. rw (takes.free a) (same (is_free_address now a) _ _ ∙ (rw (has a) at (at.gone a)));
      spare = omega (arith, at.spare, takes.spare);
    } where
      once : (f b : Bool) (n : ℕ) → cond b 1 0 + n ≤ (if f then 1 else 0) → n ≤ (if f && not b then 1 else 0)
      once true true n le = omega arith
      once true false n le = omega arith
      once false b n le = omega arith

      same : (f b : Bool) (n : ℕ) → ((f && not b) && (n == 0)) ≡ (f && (cond b 1 0 + n == 0))
      same f true n = grind (arith, nat_tests)
      same f false n = grind (arith, nat_tests)

  module _ (at : Giving start now all (u ∷ left)) where
    pub giving_inside : IfSome (run_of u.body) (λ r. r.at + r.len ≤ now.size)
    giving_inside = rw at.size (inside (run_of u.body) (omega (arith, at.inside))) where
      inside : (run : Option Run) → weight (outside start.size) run ≡ 0 → IfSome run (λ r. r.at + r.len ≤ start.size)
      inside None none = tt
      inside (Some run) none = grind (arith, nat_tests)

    pub giving_taken : IfSome (run_of u.body) (λ r. NoneFree (is_free_address now) r.at r.len)
    giving_taken = none_free (run_of u.body) taken_own where
      taken_own : (a : ℕ) → in_some_run a (run_of u.body) ≡ true → is_free_address now a ≡ false
      taken_own a inside = test (is_free_address now a) _ _ inside (rw (has a) at (at.taken a)) where
        test : (f b : Bool) (n : ℕ) → b ≡ true → cond b 1 0 + n ≤ (if f then 0 else 1) → f ≡ false
        test false b n is le = refl
        test true true n is le = absurd (omega arith)
        test true false n is le = cc

      none_free : (run : Option Run) → ((a : ℕ) → in_some_run a run ≡ true → is_free_address now a ≡ false)
          → IfSome run (λ r. NoneFree (is_free_address now) r.at r.len)
      none_free None taken = tt
      none_free (Some run) taken = λ a low high. taken a (in_run-inside run.at run.len a low high)

    pub giving_next : (next : AddressSpace) → GivesAddresses now next (λ a. in_some_run a (run_of u.body)) 1 → Giving start next all left
    giving_next next gives = record {
      size = gives.size ∙ at.size;
      inside = omega (arith, at.inside);
      taken = λ a. rw (gives.free a) (once (is_free_address now a) _ _ (rw (has a) at (at.taken a)));
      back = λ a. rw (gives.free a) (same (is_free_address now a) _ _ ∙ (rw (has a) at (at.back a)));
      spare = omega (arith, at.spare, gives.spare);
    } where
      once : (f b : Bool) (n : ℕ) → cond b 1 0 + n ≤ (if f then 0 else 1) → n ≤ (if f || b then 0 else 1)
      once true b n le = omega arith
      once false true n le = omega arith
      once false false n le = omega arith

      same : (f b : Bool) (n : ℕ) → ((f || b) || not (n == 0)) ≡ (f || not (cond b 1 0 + n == 0))
      same true b n = refl
      same false true n = grind (arith, nat_tests)
      same false false n = grind (arith, nat_tests)

pub taking_end : (start now : AddressSpace) (all left : List Update) → Taking start now all left → length left ≡ 0
    → TakesAddresses start now (λ a. list_any (in_run a) (log_runs all)) (length all)
taking_end start now all (u ∷ left) at none = absurd (omega arith)
taking_end start now all [] at none = record {
  size = at.size;
  free = λ a. rw (any_log (in_run a) all) (last (is_free_address now a) (is_free_address start a) _ (at.gone a));
  spare = omega (arith, at.spare);
} where
  last : (f s : Bool) (n : ℕ) → (f && true) ≡ (s && (n == 0)) → f ≡ (s && not (not (n == 0)))
  last f s n is = grind (arith, nat_tests)

pub giving_end : (start now : AddressSpace) (all left : List Update) → Giving start now all left → length left ≡ 0
    → GivesAddresses start now (λ a. list_any (in_run a) (log_runs all)) (length all)
giving_end start now all (u ∷ left) at none = absurd (omega arith)
giving_end start now all [] at none = record {
  size = at.size;
  free = λ a. rw (any_log (in_run a) all) (last (is_free_address now a) _ (at.back a));
  spare = omega (arith, at.spare);
} where
  last : (f s : Bool) → (f || false) ≡ s → f ≡ s
  last true s is = is
  last false s is = is
