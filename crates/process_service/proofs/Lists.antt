-- What stands at a place of the lists that a process keeps, and what setting a place makes of them.
use Rattle.std.proofs.Common.{ℕ, suc, zero, ◌≡◌, ◌<◌, false, List, [], ◌∷◌, Option, Some, None, is_some, length, map}
use Rattle.std.proofs.Common.{All, slice_index_or, refl, sym, ap, subst, ◌∙◌, arith}
use Rattle.std.specs.Prelude.{set}
use Rattle.group_types.specs.Lists.{at, put}
use Rattle.group_types.proofs.Lists.{at-map, at_index, put-at, set_put}

-- setting a place and looking at a part of each entry
pub map-set : {X Y : Type 0} (f : X → Y) (xs : List X) (i : ℕ) (x : X) → map f (set xs i x) ≡ set (map f xs) i (f x)
map-set f [] i x = refl
map-set f (y ∷ ys) zero x = refl
map-set f (y ∷ ys) (suc i) x = ap (λ (rest : List _). f y ∷ rest) (map-set f ys i x)

pub long-map : {X Y : Type 0} (f : X → Y) (xs : List X) → length (map f xs) ≡ length xs
long-map f [] = refl
long-map f (x ∷ xs) = ap suc (long-map f xs)

pub long-set : {X : Type 0} (xs : List X) (i : ℕ) (x : X) → length (set xs i x) ≡ length xs
long-set [] i x = refl
long-set (y ∷ ys) zero x = refl
long-set (y ∷ ys) (suc i) x = ap suc (long-set ys i x)

-- the part of an entry that is read at a place
pub part-at : {X Y : Type 0} (f : X → Y) (e : Y) (xs : List X) (i : ℕ) (x : X) → i < length xs → x ≡ slice_index_or xs i x → at e (map f xs) i ≡ f x
part-at f e xs i x within is = at-map x e f xs i within ∙ ap f (at_index x x xs i within ∙ sym is)

pub entry-at : {X : Type 0} (e : X) (xs : List X) (i : ℕ) (x : X) → i < length xs → x ≡ slice_index_or xs i x → at e xs i ≡ x
entry-at e xs i x within is = at_index e x xs i within ∙ sym is

-- the parts after a place is set
pub part-put : {X Y : Type 0} (f : X → Y) (e : Y) (xs : List X) (i : ℕ) (x : X) → i < length xs → map f (set xs i x) ≡ put e (map f xs) i (f x)
part-put f e xs i x within = map-set f xs i x ∙ set_put e (map f xs) i (f x) (within-map f xs i within) where
  within-map : {X Y : Type 0} (f : X → Y) (xs : List X) (i : ℕ) → i < length xs → i < length (map f xs)
  within-map f xs i within = omega (arith, within, long-map f xs)

pub none-of : {X : Type 0} (x : Option X) → is_some x ≡ false → x ≡ None
none-of None is = refl
none-of (Some x) is = absurd (cc is)

-- what holds of all entries holds of the one at a place
pub all-at : {X : Type 0} (P : X → Type 0) (e : X) (xs : List X) (i : ℕ) → i < length xs → All P xs → P (at e xs i)
all-at P e xs i within all = subst P (sym (at_index e e xs i within)) (all i e within)

-- what stands at a place is set there
pub set-same : {X : Type 0} (xs : List X) (i : ℕ) (x : X) → i < length xs → x ≡ slice_index_or xs i x → set xs i x ≡ xs
set-same xs i x within is = set_put x xs i x within ∙ ap (put x xs i) (sym (entry-at x xs i x within is)) ∙ put-at x x xs i within
