-- What is unfinished at a head is exactly what stands in its log.
use Rattle.std.proofs.Common.{ℕ, zero, suc, ◌≡◌, ◌≢◌, ◌<◌, ◌≤◌, ◌+◌, Bool, true, false, List, [], ◌∷◌, length, Option}
use Rattle.std.proofs.Common.{Some, ◌⊎◌, inl, inr, refl, ap, arith, if◌then◌else◌}
use Rattle.std.proofs.lemmas.Bool.{cases_lt}
use Rattle.std.specs.Prelude.{Contains, filter, unwrap_or}
use Rattle.std.specs.List.{range_with_len}
use Rattle.group_types.specs.declared.process.ProcessId.{ProcessId}
use Rattle.group_types.specs.declared.process.ProcessId.TheVariants.{ParityNode}
use Rattle.membership.specs.Members.{knows_dead}
use Rattle.group_message.specs.declared.update.Update.{Update}
use Rattle.group_run.specs.Applying.{head_at, replica_of}
use Rattle.group_run.specs.Fitting.{NumberedFrom}
use Rattle.group_run.specs.Heading.{acked_by, least_acked}
use Rattle.group_run.specs.Meaning.{HasAcked, IsUnfinished, process_of}
use Rattle.group_run.specs.Process.{Head}
use Rattle.group_run.specs.Replica.{Replica, last_of}
use Rattle.group_run.specs.World.{World}
use Rattle.law_answers.proofs.Traces.{lets, lets-is}
use Rattle.law_causes.specs.Unfinished.{LogIsUnfinished}
use Rattle.law_causes.proofs.Standing.{HeadStands}

-- where less than x is acknowledged by all, somebody acknowledged less
least-below : (h : Head) (last : ℕ) (test : ℕ → Bool) (x n a : ℕ) → x ≤ last → least_acked h last (filter test (range_with_len a n)) < x
    → (i : ℕ) × (a ≤ i) × (i < a + n) × (test i ≡ true) × (acked_by h i < x)
least-below h last test x zero a most less = absurd (omega (arith, most, less))
least-below h last test x (suc n) a most less = by (test a) refl less (λ low. more (least-below h last test x n (a + 1) most low)) where
  more : (i : ℕ) × (a + 1 ≤ i) × (i < a + 1 + n) × (test i ≡ true) × (acked_by h i < x) → (i : ℕ) × (a ≤ i)
      × (i < a + suc n) × (test i ≡ true) × (acked_by h i < x)
  more (i, low, high, passes, lags) = (i, omega (arith, low), omega (arith, high), passes, lags)

  here : test a ≡ true → least_acked h last (a ∷ filter test (range_with_len (a + 1) n)) < x → (acked_by h a < x) ⊎ (x ≤ acked_by h a)
      → (least_acked h last (filter test (range_with_len (a + 1) n)) < x → (i : ℕ) × (a ≤ i) × (i < a + suc n) × (test i ≡ true) × (acked_by h i < x))
      → (i : ℕ) × (a ≤ i) × (i < a + suc n) × (test i ≡ true) × (acked_by h i < x)
  here passes less (inl lags) rest = (a, omega arith, omega arith, passes, lags)
  here passes less (inr reached) rest = rest (omega (arith, less, reached))

  by : (b : Bool) → test a ≡ b → least_acked h last (if b then a ∷ filter test (range_with_len (a + 1) n) else filter test (range_with_len (a + 1) n)) < x
      → (least_acked h last (filter test (range_with_len (a + 1) n)) < x → (i : ℕ) × (a ≤ i) × (i < a + suc n) × (test i ≡ true) × (acked_by h i < x))
      → (i : ℕ) × (a ≤ i) × (i < a + suc n) × (test i ≡ true) × (acked_by h i < x)
  by true passes less rest = here passes less (cases_lt (acked_by h a) x) rest
  by false passes less rest = rest less

-- an update of a numbered list has one of its numbers, and each of these has its update
pub number-in : (a : ℕ) (us : List Update) (u : Update) → NumberedFrom a us → Contains us u → (a ≤ u.number) × (u.number < a + length us)
number-in a [] u all (k, low, is) = absurd (omega (arith, low))
number-in a (v ∷ us) u all (zero, low, is) =
    let first : v.number ≡ a = all.0 in let same : v.number ≡ u.number = ap (λ (y : Update). y.number) is in
    (omega (arith, first, same), omega (arith, first, same))
number-in a (v ∷ us) u all (suc k, low, is) =
    let rest = number-in (suc a) us u all.1 (k, omega (arith, low), is) in let from = rest.0 in let to = rest.1 in (omega (arith, from), omega (arith, to))

pub update-of : (a : ℕ) (us : List Update) (n : ℕ) → NumberedFrom a us → a ≤ n → n < a + length us → (u : Update) × Contains us u × (u.number ≡ n)
update-of a [] n all low high = absurd (omega (arith, low, high))
update-of a (v ∷ us) n all low high = by (cases_lt a n) (λ later. update-of (suc a) us n all.1 later (omega (arith, high))) where
  behind : (u : Update) × Contains us u × (u.number ≡ n) → (u : Update) × Contains (v ∷ us) u × (u.number ≡ n)
  behind (u, (k, below, is), number) = (u, (suc k, omega (arith, below), is), number)

  by : (a < n) ⊎ (n ≤ a) → (a < n → (u : Update) × Contains us u × (u.number ≡ n)) → (u : Update) × Contains (v ∷ us) u × (u.number ≡ n)
  by (inl later) rest = behind (rest later)
  by (inr same) rest = let first : v.number ≡ a = all.0 in (v, (0, omega arith, refl), omega (arith, first, same, low))

module _ (w : World) (p : ProcessId) (d : ℕ) (h : Head) (heads : head_at (process_of w p) d ≡ Some h) (stands : HeadStands w p d h) where
  abbrev r : Replica
  r = replica_of (process_of w p) d

  not-acked : (i n : ℕ) → acked_by h i < n → ¬ (HasAcked h i n)
  not-acked i n less (a, acked, most) = let is : acked_by h i ≡ a = ap (λ (o : Option ℕ). unwrap_or o 0) acked in absurd (omega (arith, is, less, most))

  -- what is above the settled number and was issued is unfinished
  pub unfinished : (n : ℕ) → (replica_of (process_of w p) d).applied < n → n ≤ last_of (replica_of (process_of w p) d) → IsUnfinished w p d n h
  unfinished n above within = record { heads = heads; above = above; within = within; waits = waiting lagging } where
    settled : least_acked h (last_of r) (filter (lets w p stands.name h) (range_with_len 0 w.shape.m)) ≤ r.applied
    settled = stands.settles h heads

    lagging : (i : ℕ) × (0 ≤ i) × (i < 0 + w.shape.m) × (lets w p stands.name h i ≡ true) × (acked_by h i < n)
    lagging = least-below h (last_of r) (lets w p stands.name h) n w.shape.m 0 within (let low = settled in omega (arith, low, above))

    waiting : (i : ℕ) × (0 ≤ i) × (i < 0 + w.shape.m) × (lets w p stands.name h i ≡ true) × (acked_by h i < n)
        → (i : ℕ) × (i < w.shape.m) × (ParityNode i ≢ p) × (knows_dead (process_of w p).known (ParityNode i) ≡ false) × (¬ (HasAcked h i n))
    waiting (i, low, high, passes, less) = let both = lets-is w p stands.name h i passes in (i, omega (arith, high), both.0, both.1, not-acked i n less)

  pub log-unfinished : LogIsUnfinished w p d h
  log-unfinished = record {
    waits = λ u there. let in_log = number-in (suc r.applied) r.log u stands.numbered there in let from = in_log.0 in
        let to = in_log.1 in unfinished u.number (omega (arith, from)) (omega (arith, to));
    stands = λ n is. let above = is.above in let within = is.within in update-of (suc r.applied) r.log n stands.numbered
        (omega (arith, above)) (omega (arith, within));
    numbers = λ n. (λ is. (is.above, is.within), λ both. unfinished n both.0 both.1);
  }
