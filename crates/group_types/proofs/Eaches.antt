-- Laws of what is said of each member of a list, and of each two.
use Rattle.std.proofs.Common.{List, [], ◌∷◌, ◌++◌, ℕ, zero, suc, take, drop, map, Bool, true, false, filter, cond}
use Rattle.group_types.specs.Each.{Each, EachTwo}

pub each-append : {X : Type 0} (P : X → Type 0) (xs ys : List X) → Each P xs → Each P ys → Each P (xs ++ ys)
each-append P [] ys a b = b
each-append P (x ∷ xs) ys a b = (a.0, each-append P xs ys a.1 b)

pub each-left : {X : Type 0} (P : X → Type 0) (xs ys : List X) → Each P (xs ++ ys) → Each P xs
each-left P [] ys a = tt
each-left P (x ∷ xs) ys a = (a.0, each-left P xs ys a.1)

pub each-take : {X : Type 0} (P : X → Type 0) (n : ℕ) (xs : List X) → Each P xs → Each P (take n xs)
each-take P zero xs a = tt
each-take P (suc n) [] a = tt
each-take P (suc n) (x ∷ xs) a = (a.0, each-take P n xs a.1)

pub each-drop : {X : Type 0} (P : X → Type 0) (n : ℕ) (xs : List X) → Each P xs → Each P (drop n xs)
each-drop P zero xs a = a
each-drop P (suc n) [] a = tt
each-drop P (suc n) (x ∷ xs) a = each-drop P n xs a.1

pub each-weaker : {X : Type 0} (P Q : X → Type 0) → ((x : X) → P x → Q x) → (xs : List X) → Each P xs → Each Q xs
each-weaker P Q turn [] a = tt
each-weaker P Q turn (x ∷ xs) a = (turn x a.0, each-weaker P Q turn xs a.1)

pub each-both : {X : Type 0} (P Q : X → Type 0) (xs : List X) → Each P xs → Each Q xs → Each (λ x. P x × Q x) xs
each-both P Q [] a b = tt
each-both P Q (x ∷ xs) a b = ((a.0, b.0), each-both P Q xs a.1 b.1)

-- one more at the end
pub each_two-push : {X : Type 0} (R : X → X → Type 0) (xs : List X) (y : X) → EachTwo R xs → Each (λ x. R x y) xs → EachTwo R (xs ++ y ∷ [])
each_two-push R [] y a b = (tt, tt)
each_two-push R (x ∷ xs) y a b = (each-append (R x) xs (y ∷ []) a.0 (b.0, tt), each_two-push R xs y a.1 b.1)

pub each_two-take : {X : Type 0} (R : X → X → Type 0) (n : ℕ) (xs : List X) → EachTwo R xs → EachTwo R (take n xs)
each_two-take R zero xs a = tt
each_two-take R (suc n) [] a = tt
each_two-take R (suc n) (x ∷ xs) a = (each-take (R x) n xs a.0, each_two-take R n xs a.1)

-- the member in the middle
pub each-middle : {X : Type 0} (P : X → Type 0) (xs : List X) (y : X) (ys : List X) → Each P (xs ++ y ∷ ys) → P y
each-middle P [] y ys a = a.0
each-middle P (x ∷ xs) y ys a = each-middle P xs y ys a.1

-- what is said of each for every y, is said for every y of each
pub each-every : {X Y : Type 0} (Q : Y → Type 0) (P : X → Y → Type 0) (xs : List X)
    → ((y : Y) → Q y → Each (λ x. P x y) xs) → Each (λ x. (y : Y) → Q y → P x y) xs
each-every Q P [] every = tt
each-every Q P (x ∷ xs) every = ((λ y q. (every y q).0), each-every Q P xs (λ y q. (every y q).1))

pub each-all : {X : Type 0} (P : X → Type 0) → ((x : X) → P x) → (xs : List X) → Each P xs
each-all P every [] = tt
each-all P every (x ∷ xs) = (every x, each-all P every xs)

pub each-map : {X Y : Type 0} (P : Y → Type 0) (f : X → Y) (xs : List X) → Each (λ x. P (f x)) xs → Each P (map f xs)
each-map P f [] a = tt
each-map P f (x ∷ xs) a = (a.0, each-map P f xs a.1)

pub each-filter : {X : Type 0} (P : X → Type 0) (test : X → Bool) (xs : List X) → Each P xs → Each P (filter test xs)
each-filter P test [] all = tt
each-filter P test (x ∷ xs) all = by (test x) (each-filter P test xs all.1) where
  by : (b : Bool) → Each P (filter test xs) → Each P (cond b (x ∷ filter test xs) (filter test xs))
  by true rest = (all.0, rest)
  by false rest = rest
