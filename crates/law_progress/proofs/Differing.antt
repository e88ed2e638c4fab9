-- Different numbers below m are at most m.
use Rattle.std.proofs.Common.{◌≡◌, ◌≢◌, ℕ, zero, suc, ◌<◌, ◌≤◌, List, [], ◌∷◌, length, All, AllPairs, Contains, inl, inr, sym, ap, subst, ◌∙◌, refl, arith}
use Rattle.std.proofs.lemmas.List.FromFn.{length-range_with_len}
use Rattle.std.specs.List.{range_with_len}
use Rattle.erasure_code.proofs.Nodes.{Among}
use Rattle.law_bytes.proofs.Rising.{among-contains, among-range}

-- the list without the one that stands in it here
abbrev without : (x : ℕ) (ys : List ℕ) → Among x ys → List ℕ
without x [] there = []
without x (y ∷ ys) (inl same) = ys
without x (y ∷ ys) (inr there) = y ∷ without x ys there

length-without : (x : ℕ) (ys : List ℕ) (there : Among x ys) → suc (length (without x ys there)) ≡ length ys
length-without x [] there = absurd there
length-without x (y ∷ ys) (inl same) = refl
length-without x (y ∷ ys) (inr there) = ap suc (length-without x ys there)

-- the others still stand in it
still : (x z : ℕ) (ys : List ℕ) (there : Among x ys) → Among z ys → z ≢ x → Among z (without x ys there)
still x z [] there among other = absurd there
still x z (y ∷ ys) (inl same) (inl is) other = absurd (other (is ∙ sym same))
still x z (y ∷ ys) (inl same) (inr deeper) other = deeper
still x z (y ∷ ys) (inr there) (inl is) other = inl is
still x z (y ∷ ys) (inr there) (inr deeper) other = inr (still x z ys there deeper other)

-- different numbers of a list are no more than it has
no-more : (xs ys : List ℕ) → AllPairs (λ i j. i ≢ j) xs → ((x : ℕ) → Among x xs → Among x ys) → length xs ≤ length ys
no-more [] ys differ inside = omega arith
no-more (x ∷ xs) ys differ inside =
    let rest = no-more xs (without x ys first) (λ i j d before below. differ (suc i) (suc j) d (omega (arith, before)) (omega (arith, below)))
    (λ z there. still x z ys first (inside z (inr there)) (λ same. absent (subst (λ (y : ℕ). Among y xs) same there))) in
    let long = length-without x ys first in
    omega (arith, rest, long)
  where
    first : Among x ys
    first = inside x (inl refl)

    absent : ¬ (Among x xs)
    absent there = let at : Contains xs x = among-contains xs x there in
        differ zero (suc at.0) x (omega arith) (let below = at.1 in omega (arith, below)) (sym at.2)

pub differ-below : (m : ℕ) (xs : List ℕ) → All (λ i. i < m) xs → AllPairs (λ i j. i ≢ j) xs → length xs ≤ m
differ-below m xs below differ =
    let most = no-more xs (range_with_len 0 m) differ (λ x there. among-range x 0 m (omega arith) (let less = low x there in omega (arith, less))) in
    let long = length-range_with_len 0 m in
    omega (arith, most, long)
  where
    low : (x : ℕ) → Among x xs → x < m
    low x there = let at : Contains xs x = among-contains xs x there in let is = at.2 in let less = below at.0 x at.1 in omega (arith, is, less)
