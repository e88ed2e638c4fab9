-- Lists that are made index by index.
use Rattle.std.proofs.Common.{ℕ, zero, suc, ◌≡◌, ◌<◌, ◌≤◌, ◌+◌, List, [], ◌∷◌, length, map, refl, sym, ap, ◌∙◌, arith}
use Rattle.std.specs.List.{range_with_len}
use Rattle.group_types.specs.Lists.{at}
use Rattle.group_types.proofs.Lists.{map-indices}

-- what is alike at each index makes the same list
pub range-same : {X : Type 0} (f g : ℕ → X) (a n : ℕ) → ((x : ℕ) → a ≤ x → x < a + n → f x ≡ g x) → map f (range_with_len a n) ≡ map g (range_with_len a n)
range-same f g a zero same = refl
range-same f g a (suc n) same =
    let first : f a ≡ g a = same a (omega arith) (omega arith) in
    let rest : map f (range_with_len (a + 1) n) ≡ map g (range_with_len (a + 1) n) =
    range-same f g (a + 1) n (λ x from below. same x (omega arith) (omega arith)) in
    λ j. first j ∷ rest j

pub range-below : {X : Type 0} (f g : ℕ → X) (n : ℕ) → ((x : ℕ) → x < n → f x ≡ g x) → map f (range_with_len 0 n) ≡ map g (range_with_len 0 n)
range-below f g n same = range-same f g 0 n (λ x from below. same x (omega (arith, below)))

-- the entries of a list, one by one, are the list
pub entries-all : {X : Type 0} (d : X) (xs : List X) → map (λ x. at d xs x) (range_with_len 0 (length xs)) ≡ xs
entries-all d xs = sym (map-indices (λ x. x) d (λ i. at d xs i) xs 0 (λ i within. ap (at d xs) (omega arith))) ∙ map-id xs where
  map-id : {Y : Type 0} (ys : List Y) → map (λ y. y) ys ≡ ys
  map-id [] = refl
  map-id (y ∷ ys) = ap (λ (rest : List _). y ∷ rest) (map-id ys)

-- a list is known by its entries
pub entries-same : {X : Type 0} (d : X) (f : ℕ → X) (xs : List X) (n : ℕ) → length xs ≡ n
    → ((x : ℕ) → x < n → at d xs x ≡ f x) → xs ≡ map f (range_with_len 0 n)
entries-same d f xs n long same =
    sym (entries-all d xs) ∙ ap (λ (m : ℕ). map (λ x. at d xs x) (range_with_len 0 m)) long ∙ range-below (λ x. at d xs x) f n same
