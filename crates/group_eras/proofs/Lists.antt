-- Laws of lists that runs and carries need.
use Rattle.std.proofs.Common.{ℕ, zero, suc, ◌≡◌, ◌<◌, ◌≤◌, List, [], ◌∷◌, ◌++◌, length, map, take, refl, ap, arith}
use Rattle.std.specs.Prelude.{slice_get}
use Rattle.std.specs.List.{Contains}
use Rattle.group_types.specs.Each.{Each, EachTwo}
use Rattle.group_types.proofs.Eaches.{each-map}

pub get-front : {X : Type 0} (xs ys : List X) (j : ℕ) → j < length xs → slice_get (xs ++ ys) j ≡ slice_get xs j
get-front [] ys j low = absurd (omega (arith, low))
get-front (x ∷ xs) ys zero low = refl
get-front (x ∷ xs) ys (suc j) low = get-front xs ys j (omega (arith, low))

pub take-front : {X : Type 0} (xs ys : List X) (j : ℕ) → j ≤ length xs → take j (xs ++ ys) ≡ take j xs
take-front xs ys zero low = refl
take-front [] ys (suc j) low = absurd (omega (arith, low))
take-front (x ∷ xs) ys (suc j) low = ap (λ (zs : List _). x ∷ zs) (take-front xs ys j (omega (arith, low)))

pub take-whole : {X : Type 0} (xs : List X) (j : ℕ) → length xs ≤ j → take j xs ≡ xs
take-whole [] zero low = refl
take-whole [] (suc j) low = refl
take-whole (x ∷ xs) zero low = absurd (omega (arith, low))
take-whole (x ∷ xs) (suc j) low = ap (λ (zs : List _). x ∷ zs) (take-whole xs j (omega (arith, low)))

pub map-more : {X Y : Type 0} (f : X → Y) (xs : List X) (x : X) → map f (xs ++ x ∷ []) ≡ map f xs ++ f x ∷ []
map-more f [] x = refl
map-more f (y ∷ ys) x = ap (λ (zs : List _). f y ∷ zs) (map-more f ys x)

pub map-both : {X Y : Type 0} (f : X → Y) (xs ys : List X) → map f (xs ++ ys) ≡ map f xs ++ map f ys
map-both f [] ys = refl
map-both f (x ∷ xs) ys = ap (λ (zs : List _). f x ∷ zs) (map-both f xs ys)

pub contains-map : {X Y : Type 0} (f : X → Y) (xs : List X) (x : X) → Contains xs x → Contains (map f xs) (f x)
contains-map f [] x there = absurd (let low = there.1 in omega (arith, low))
contains-map f (y ∷ ys) x (zero, low, is) = (0, omega arith, ap f is)
contains-map f (y ∷ ys) x (suc i, low, is) = let rest = contains-map f ys x (i, omega (arith, low), is) in
    (suc rest.0, (let less = rest.1 in omega (arith, less)), rest.2)

pub each-self : {X : Type 0} (xs : List X) → Each (Contains xs) xs
each-self xs = inside xs (λ x there. there) where
  inside : (ys : List _) → ((y : _) → Contains ys y → Contains xs y) → Each (Contains xs) ys
  inside [] within = tt
  inside (y ∷ ys) within = (within y (0, omega arith, refl), inside ys (λ z there. within z (suc there.0, (let low = there.1 in omega (arith, low)), there.2)))

pub two-map : {X Y : Type 0} (R : Y → Y → Type 0) (f : X → Y) (xs : List X) → EachTwo (λ x y. R (f x) (f y)) xs → EachTwo R (map f xs)
two-map R f [] two = tt
two-map R f (x ∷ xs) two = (each-map (R (f x)) f xs two.0, two-map R f xs two.1)
