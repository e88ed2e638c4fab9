-- All gateways are closed, or none is.
use Rattle.std.proofs.Common.{ℕ, zero, suc, ◌≡◌, ◌<◌, ◌≤◌, Bool, true, false, ◌&&◌, List, [], ◌∷◌, length, ap, refl, ◌∙◌, arith}
use Rattle.std.specs.Prelude.{IfSome}
use Rattle.std.specs.List.{list_all, slice_get}

all-true : {G : Type 0} (closed : G → Bool) (xs : List G)
    → ((j : ℕ) → j < length xs → IfSome (slice_get xs j) (λ (x : G). closed x ≡ true)) → list_all closed xs ≡ true
all-true closed [] each = refl
all-true closed (x ∷ xs) each = ap (λ (b : Bool). b && list_all closed xs) (each 0 (omega arith)) ∙ all-true closed xs (λ j within. each (suc j) (omega arith))

-- where there is one they are closed if each is, and else not
pub all-closed : {G : Type 0} (closed : G → Bool) (b : Bool) (xs : List G) → 1 ≤ length xs
    → ((j : ℕ) → j < length xs → IfSome (slice_get xs j) (λ (x : G). closed x ≡ b)) → list_all closed xs ≡ b
all-closed closed true xs some each = all-true closed xs each
all-closed closed false [] some each = absurd (omega arith)
all-closed closed false (x ∷ xs) some each = ap (λ (b : Bool). b && list_all closed xs) (each 0 (omega arith))
