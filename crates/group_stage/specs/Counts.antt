-- Sums over the views of all seats.
use Rattle.std.specs.Prelude.{ℕ, zero, suc, ◌+◌, Bool, true, false, List, [], ◌∷◌}

-- the sum of f over a list
abbrev pub total : {X : Type 0} → (X → ℕ) → List X → ℕ
total f [] = 0
total f (x ∷ xs) = f x + total f xs

-- 1 where it holds
abbrev pub bit : Bool → ℕ
bit true = 1
bit false = 0

-- 1 above 0
abbrev pub flag : ℕ → ℕ
flag zero = 0
flag (suc n) = 1
