-- Different numbers below a bound are no more than that.
use Rattle.std.proofs.Common.{◌≡◌, ◌≢◌, ℕ, zero, suc, ◌<◌, ◌≤◌, ◌==◌, Bool, true, false, not, List, [], ◌∷◌, length}
use Rattle.std.proofs.Common.{filter, cond, inl, inr, refl, sym, ap, subst, ◌∙◌, arith}
use Rattle.std.proofs.lemmas.Bool.{eq-eqb}
use Rattle.std.proofs.lemmas.Grind.{common_steps}
use Rattle.law_progress.proofs.Waiting.{Has}
use Rattle.law_progress.proofs.Starting.{NoRepeat}
use Rattle.law_progress.proofs.Views.{filter-has}

-- the numbers but one
abbrev others : ℕ → List ℕ → List ℕ
others n xs = filter (λ x. not (x == n)) xs

-- where it isn't there, all are left
all-left : (n : ℕ) (xs : List ℕ) → (Has (λ i. i ≡ n) xs → ⊥) → length xs ≤ length (others n xs)
all-left n [] none = omega arith
all-left n (x ∷ xs) none = by (x == n) refl (all-left n xs (λ there. none (inr there))) where
  by : (b : Bool) → (x == n) ≡ b → length xs ≤ length (others n xs) → suc (length xs) ≤ length (cond (not b) (x ∷ others n xs) (others n xs))
  by true is rest = let same : x ≡ n = grind (arith, common_steps) in absurd (none (inl same))
  by false is rest = omega (arith, rest)

-- of different numbers one is out at most
few-out : (n : ℕ) (xs : List ℕ) → NoRepeat xs → length xs ≤ suc (length (others n xs))
few-out n [] differ = omega arith
few-out n (x ∷ xs) differ = by (x == n) refl (few-out n xs differ.1) where
  by : (b : Bool) → (x == n) ≡ b → length xs ≤ suc (length (others n xs)) → suc (length xs) ≤ suc (length (cond (not b) (x ∷ others n xs) (others n xs)))
  by true is rest = let same : x ≡ n = grind (arith, common_steps) in let all =
      all-left n xs (λ there. differ.0 (subst (λ (y : ℕ). Has (λ i. i ≡ y) xs) (sym same) there)) in omega (arith, all)
  by false is rest = omega (arith, rest)

others-differ : (n : ℕ) (xs : List ℕ) → NoRepeat xs → NoRepeat (others n xs)
others-differ n [] differ = tt
others-differ n (x ∷ xs) differ = by (x == n) (others-differ n xs differ.1) where
  by : (b : Bool) → NoRepeat (others n xs) → NoRepeat (cond (not b) (x ∷ others n xs) (others n xs))
  by true rest = rest
  by false rest = ((λ there. differ.0 (filter-has (λ y. not (y == n)) x xs there).0), rest)

pub few-below : (n : ℕ) (xs : List ℕ) → NoRepeat xs → ((x : ℕ) → Has (λ i. i ≡ x) xs → x < n) → length xs ≤ n
few-below n [] differ below = omega arith
few-below zero (x ∷ xs) differ below = let low = below x (inl refl) in absurd (omega (arith, low))
few-below (suc n) (x ∷ xs) differ below =
    let rest = few-below n (others n (x ∷ xs)) (others-differ n (x ∷ xs) differ) (λ y there. left y (filter-has (λ z. not (z == n)) y (x ∷ xs) there)) in
    let out = few-out n (x ∷ xs) differ in
    omega (arith, rest, out)
  where
    left : (y : ℕ) → Has (λ i. i ≡ y) (x ∷ xs) × (not (y == n) ≡ true) → y < n
    left y both =
        let low = below y both.0 in
        let other : y ≢ n = λ same. cc (sym both.1 ∙ ap not (eq-eqb y n same)) in
        omega (arith, low, other)
