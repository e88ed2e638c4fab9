-- Lists that are read with a default, so that an entry which nobody wrote is as at the start.
use Rattle.std.specs.Prelude.{ℕ, zero, suc, Bool, List, [], ◌∷◌}
use Rattle.std.specs.Ordering.{is_eq, nat_cmp}
use Rattle.std.specs.Cmp.Lexicographic.{slice_cmp}

-- the entry at place i, d where nobody wrote one
abbrev pub at : {X : Type 0} → X → List X → ℕ → X
at d [] i = d
at d (x ∷ xs) zero = x
at d (x ∷ xs) (suc i) = at d xs i

-- the list with y at place i, grown with d where it is shorter
abbrev pub put : {X : Type 0} → X → List X → ℕ → X → List X
put d [] zero y = y ∷ []
put d [] (suc i) y = d ∷ put d [] i y
put d (x ∷ xs) zero y = y ∷ xs
put d (x ∷ xs) (suc i) y = x ∷ put d xs i y

-- whether two keys are equal
abbrev pub same_key : List ℕ → List ℕ → Bool
same_key a b = is_eq (slice_cmp nat_cmp a b)
