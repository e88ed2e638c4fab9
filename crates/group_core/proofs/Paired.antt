-- Two items of a list that is cut in two.
use Rattle.std.proofs.Common.{ℕ, zero, suc, ◌≡◌, ◌<◌, List, [], ◌∷◌, ◌++◌, length, take, drop, get_or, set, refl, ap, arith}

module _ {X : Type 0} where
  pub front-at : (xs : List X) (i j : ℕ) (e : X) → i < j → get_or (take j xs) i e ≡ get_or xs i e
  front-at xs i zero e below = absurd (omega (arith, below))
  front-at [] i (suc j) e below = refl
  front-at (x ∷ xs) zero (suc j) e below = refl
  front-at (x ∷ xs) (suc i) (suc j) e below = front-at xs i j e (omega (arith, below))

  pub back-at : (xs : List X) (j : ℕ) (e : X) → get_or (drop j xs) 0 e ≡ get_or xs j e
  back-at xs zero e = refl
  back-at [] (suc j) e = refl
  back-at (x ∷ xs) (suc j) e = back-at xs j e

  pub one-set : (xs : List X) (j : ℕ) (b : X) → j < length xs → take j xs ++ set (drop j xs) 0 b ≡ set xs j b
  one-set [] j b below = absurd (omega (arith, below))
  one-set (x ∷ xs) zero b below = refl
  one-set (x ∷ xs) (suc j) b below = ap (λ (rest : List X). x ∷ rest) (one-set xs j b (omega (arith, below)))

  pub two-set : (xs : List X) (i j : ℕ) (a b : X) → i < j → j < length xs → set (take j xs) i a ++ set (drop j xs) 0 b ≡ set (set xs i a) j b
  two-set xs i zero a b low below = absurd (omega (arith, low))
  two-set [] i (suc j) a b low below = absurd (omega (arith, below))
  two-set (x ∷ xs) zero (suc j) a b low below = ap (λ (rest : List X). a ∷ rest) (one-set xs j b (omega (arith, below)))
  two-set (x ∷ xs) (suc i) (suc j) a b low below = ap (λ (rest : List X). x ∷ rest) (two-set xs i j a b (omega (arith, low)) (omega (arith, below)))

  -- the order doesn't matter
  pub set-either : (xs : List X) (i j : ℕ) (a b : X) → i < j → set (set xs i a) j b ≡ set (set xs j b) i a
  set-either [] i j a b low = refl
  set-either (x ∷ xs) i zero a b low = absurd (omega (arith, low))
  set-either (x ∷ xs) zero (suc j) a b low = refl
  set-either (x ∷ xs) (suc i) (suc j) a b low = ap (λ (rest : List X). x ∷ rest) (set-either xs i j a b (omega (arith, low)))
