-- Places only grow, by the runs of updates that are settled for the first time: where the log stays, so do they.
use Rattle.std.proofs.Common.{ℕ, zero, suc, ◌≡◌, ◌≢◌, ◌+◌, ◌<◌, ◌≤◌, List, [], ◌∷◌, ◌++◌, length, map, ◌⊎◌, inl, inr}
use Rattle.std.proofs.Common.{Option, refl, sym, ap, subst, ◌∙◌, append_assoc, append-nil, length-append, arith}
use Rattle.std.specs.List.{range_with_len}
use Rattle.std.proofs.lemmas.Bool.{cases_eq, cases_lt}
use Rattle.std.proofs.lemmas.List.{length-map}
use Rattle.group_types.specs.Lists.{at, put}
use Rattle.group_types.specs.declared.run.Run.{Run}
use Rattle.group_types.proofs.Lists.{at-put, at-put-other, at_behind, length-put}
use Rattle.group_calls.specs.declared.event.Event.{Event}
use Rattle.group_run.specs.Applying.{Settlement}
use Rattle.group_run.specs.Replica.{run_of}
use Rattle.group_run.specs.World.{Ledger, Ticket, World, after, grown, ledger_after, ledger_with, new_ones, opening, settled_in, step, world_after}
use Rattle.law_moves.proofs.Reading.{grown-is}

pub after-append : (w : World) (es fs : List Event) → world_after w (es ++ fs) ≡ world_after (world_after w es) fs
after-append w [] fs = refl
after-append w (e ∷ es) fs = after-append (step w e).world es fs

abbrev Places : Type 0
Places = List (List (Option Run))

-- so many partitions, of each of which the places have grown
pub record Grows (k : ℕ) (before now : Places) : Type 0 where
  pub long : length now ≡ k
  pub more : (d : ℕ) → (xs : List (Option Run)) × (at [] now d ≡ at [] before d ++ xs)

grows-none : (k : ℕ) (places : Places) → length places ≡ k → Grows k places places
grows-none k places long = record { long = long; more = λ d. ([], sym (append-nil (at [] places d))) }

grows-then : (k : ℕ) (a b c : Places) → Grows k a b → Grows k b c → Grows k a c
grows-then k a b c first then = record {
  long = then.long;
  more = λ d.
      let x = first.more d in
      let y = then.more d in
      (x.0 ++ y.0, y.1 ∙ ap (λ (xs : List (Option Run)). xs ++ y.0) x.1 ∙ append_assoc (at [] a d) x.0 y.0);
}

grows-at : (k : ℕ) (places : Places) (d : ℕ) (xs : List (Option Run)) → length places ≡ k → d < k → Grows k places (put [] places d (grown (at [] places d) xs))
grows-at k places d xs long low =
    record {
      long = length-put [] places d (grown (at [] places d) xs) (omega (arith, long, low)) ∙ long;
      more = λ e. by e (cases_eq e d);
    } where
      by : (e : ℕ) → (e ≡ d) ⊎ (e ≢ d) → (ys : List (Option Run)) × (at [] (put [] places d (grown (at [] places d) xs)) e ≡ at [] places e ++ ys)
      by e (inl same) = (
        xs,
        ap (at [] (put [] places d (grown (at [] places d) xs))) same ∙ at-put [] [] places d (grown (at [] places d) xs)
            ∙ grown-is (at [] places d) xs ∙ ap (λ (i : ℕ). at [] places i ++ xs) (sym same),
      )
      by e (inr other) = ([], at-put-other [] places d e (grown (at [] places d) xs) other ∙ sym (append-nil (at [] places e)))

ledger-grows : (tickets : List Ticket) (settled : List Settlement) (k n a : ℕ) (ledger : Ledger) → a + n ≤ k
    → length ledger.places ≡ k → Grows k ledger.places (ledger_after tickets settled (range_with_len a n) ledger).places
ledger-grows tickets settled k zero a ledger within long = grows-none k ledger.places long
ledger-grows tickets settled k (suc n) a ledger within long =
    let news = new_ones (length (at [] ledger.places a)) (settled_in a settled) in
    let first = grows-at k ledger.places a (map (λ u. run_of u.body) news) long (omega (arith, within)) in
    grows-then k ledger.places (ledger_with tickets a news ledger).places
    (ledger_after tickets settled (range_with_len (a + 1) n) (ledger_with tickets a news ledger)).places first
    (ledger-grows tickets settled k n (a + 1) (ledger_with tickets a news ledger) (omega (arith, within)) first.long)

pub step-grows : (w : World) (e : Event) → length w.places ≡ w.shape.k → Grows w.shape.k w.places (step w e).world.places
step-grows w e long = ledger-grows _ _ w.shape.k w.shape.k 0 _ (omega arith) long

pub events-grow : (w : World) (es : List Event) → length w.places ≡ w.shape.k → Grows w.shape.k w.places (world_after w es).places
events-grow w [] long = grows-none w.shape.k w.places long
events-grow w (e ∷ es) long =
    let first = step-grows w e long in
    grows-then w.shape.k w.places (step w e).world.places (world_after (step w e).world es).places first (events-grow (step w e).world es first.long)

-- nothing grew where nothing is longer
none-more : (xs ys : List (Option Run)) → length (xs ++ ys) ≡ length xs → xs ++ ys ≡ xs
none-more xs [] long = append-nil xs
none-more xs (y ∷ ys) long = let sum = length-append xs (y ∷ ys) in absurd (omega (arith, sum, long))

same-lists : (xs ys : Places) → length ys ≡ length xs → ((d : ℕ) → at [] ys d ≡ at [] xs d) → ys ≡ xs
same-lists [] [] long same = refl
same-lists [] (y ∷ ys) long same = absurd (omega (arith, long))
same-lists (x ∷ xs) [] long same = absurd (omega (arith, long))
same-lists (x ∷ xs) (y ∷ ys) long same = ap (λ (z : List (Option Run)). z ∷ ys) (same 0)
    ∙ ap (λ (zs : Places). x ∷ zs) (same-lists xs ys (omega (arith, long)) (λ d. same (suc d)))

pub grows-same : (k : ℕ) (before now : Places) → length before ≡ k → Grows k before now
    → ((d : ℕ) → d < k → length (at [] now d) ≡ length (at [] before d)) → now ≡ before
grows-same k before now long grows same = same-lists before now (omega (arith, long, grows.long)) at-each where
  short : (d : ℕ) → length (at [] now d) ≡ length (at [] before d) → at [] now d ≡ at [] before d
  short d count =
      let more = grows.more d in
      more.1 ∙ none-more (at [] before d) more.0 (ap length (sym more.1) ∙ count)

  at-each : (d : ℕ) → at [] now d ≡ at [] before d
  at-each d = by (cases_lt d k) where
    by : (d < k) ⊎ (k ≤ d) → at [] now d ≡ at [] before d
    by (inl low) = short d (same d low)
    by (inr high) = at_behind [] now d (let many = grows.long in omega (arith, many, high)) ∙ sym (at_behind [] before d (omega (arith, long, high)))
