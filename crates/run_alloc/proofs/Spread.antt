-- Where spread runs lie, and which addresses they have.
use Rattle.std.proofs.Common.{◌≡◌, ℕ, zero, suc, ◌+◌, ◌<◌, ◌≤◌, true, false, ◌||◌, ◌==◌, List, [], ◌∷◌, ◌++◌, refl, ◌∙◌, arith}
use Rattle.std.specs.List.{list_any}
use Rattle.std.specs.FinSet as set
use Rattle.std.proofs.lemmas.List.Folds.{list_any-append}
use Rattle.std.proofs.lemmas.Bool.Decides.{nat_tests}
use Rattle.run_alloc.specs.declared.order.Run.{Run}
use Rattle.run_alloc.specs.Free.{in_run_at}
use Rattle.run_alloc.specs.Runs.{addresses_from, addresses, free_set, in_runs, IsSpread}

pub in_run-inside : (at len a : ℕ) → at ≤ a → a < at + len → in_run_at at len a ≡ true
in_run-inside at len a low high = grind (arith, nat_tests)

pub in_run-below : (at len a : ℕ) → a < at → in_run_at at len a ≡ false
in_run-below at len a below = grind (arith, nat_tests)

pub in_run-above : (at len a : ℕ) → at + len ≤ a → in_run_at at len a ≡ false
in_run-above at len a above = grind (arith, nat_tests)

pub in_run-true : (at len a : ℕ) → in_run_at at len a ≡ true → (at ≤ a) × (a < at + len)
in_run-true at len a inside = (grind (arith, nat_tests), grind (arith, nat_tests))

-- a run is a run and the one behind it
pub in_run-add : (at m n a : ℕ) → in_run_at at (m + n) a ≡ (in_run_at at m a || in_run_at (at + m) n a)
in_run-add at m n a = grind (arith, nat_tests)

pub spread-lower : (runs : List Run) (low from high : ℕ) → low ≤ from → IsSpread from runs high → IsSpread low runs high
spread-lower [] low from high le spread = omega arith
spread-lower (run ∷ runs) low from high le spread = (omega (arith, spread.0), spread.1)

pub spread-higher : (runs : List Run) (low high to : ℕ) → high ≤ to → IsSpread low runs high → IsSpread low runs to
spread-higher [] low high to le spread = omega arith
spread-higher (run ∷ runs) low high to le spread = (spread.0, (spread.1.0, spread-higher runs _ high to le spread.1.1))

pub spread-bounds : (runs : List Run) (low high : ℕ) → IsSpread low runs high → low ≤ high
spread-bounds [] low high spread = spread
spread-bounds (run ∷ runs) low high spread = omega (arith, spread.0, spread-bounds runs _ high spread.1.1)

pub spread-append : (xs ys : List Run) (low mid high : ℕ) → IsSpread low xs mid → IsSpread mid ys high → IsSpread low (xs ++ ys) high
spread-append [] ys low mid high first second = spread-lower ys low mid high first second
spread-append (run ∷ xs) ys low mid high first second = (first.0, (first.1.0, spread-append xs ys _ mid high first.1.1 second))

-- the runs before one that is there end below it
pub spread-before : (xs ys : List Run) (run : Run) (low high : ℕ) → IsSpread low (xs ++ run ∷ ys) high → IsSpread low xs run.at
spread-before [] ys run low high spread = spread.0
spread-before (x ∷ xs) ys run low high spread = (spread.0, (spread.1.0, spread-before xs ys run _ high spread.1.1))

pub spread-behind : (xs ys : List Run) (low high : ℕ) → IsSpread low (xs ++ ys) high → IsSpread low ys high
spread-behind [] ys low high spread = spread
spread-behind (x ∷ xs) ys low high spread = spread-lower ys low _ high (omega (arith, spread.0)) (spread-behind xs ys _ high spread.1.1)

pub spread-front : (xs ys : List Run) (low high : ℕ) → IsSpread low (xs ++ ys) high → IsSpread low xs high
spread-front [] ys low high spread = spread-bounds ys low high spread
spread-front (x ∷ xs) ys low high spread = (spread.0, (spread.1.0, spread-front xs ys _ high spread.1.1))

-- an address below all runs is in none
pub in_runs-below : (runs : List Run) (low high a : ℕ) → IsSpread low runs high → a < low → in_runs runs a ≡ false
in_runs-below [] low high a spread below = refl
in_runs-below (run ∷ runs) low high a spread below =
    grind (arith, in_run-below run.at run.len a (omega (arith, spread.0)), in_runs-below runs _ high a spread.1.1 (omega (arith, spread.0)))

-- nor is one above all, or the one that the last gap keeps
pub in_runs-above : (runs : List Run) (low high a : ℕ) → IsSpread low runs high → high ≤ a + 1 → in_runs runs a ≡ false
in_runs-above [] low high a spread above = refl
in_runs-above (run ∷ runs) low high a spread above =
    grind (arith, in_run-above run.at run.len a (omega (arith, spread-bounds runs _ high spread.1.1)), in_runs-above runs _ high a spread.1.1 above)

pub in_runs-append : (xs ys : List Run) (a : ℕ) → in_runs (xs ++ ys) a ≡ (in_runs xs a || in_runs ys a)
in_runs-append xs ys a = list_any-append (λ run. in_run_at run.at run.len a) xs ys

listed-from : (at len a : ℕ) → list_any (λ y. y == a) (addresses_from at len) ≡ in_run_at at len a
listed-from at zero a = grind (arith, nat_tests)
listed-from at (suc len) a = grind (arith, nat_tests, listed-from (suc at) len a)

listed : (runs : List Run) (a : ℕ) → list_any (λ y. y == a) (addresses runs) ≡ in_runs runs a
listed [] a = refl
listed (run ∷ runs) a = list_any-append (λ y. y == a) (addresses_from run.at run.len) (addresses runs)
    ∙ grind (arith, listed-from run.at run.len a, listed runs a)

-- the set of the runs' addresses has those that a run has
pub contains-free_set : (runs : List Run) (a : ℕ) → set.contains (free_set runs) a ≡ in_runs runs a
contains-free_set runs a = set.contains-from_list_nat (addresses runs) a ∙ listed runs a
