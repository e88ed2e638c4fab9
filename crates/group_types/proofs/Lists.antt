use Rattle.std.proofs.Common.{ℕ, zero, suc, ◌≡◌, ◌≢◌, ◌<◌, ◌≤◌, ◌+◌, List, [], ◌∷◌, length, replicate, map, refl, ap, ◌∙◌, arith}
use Rattle.std.specs.Prelude.{set, slice_index_or}
use Rattle.std.specs.List.{range_with_len}
use Rattle.group_types.specs.Lists.{at, put}

-- what is put at a place stands there
pub at-put : {X : Type 0} (d e : X) (xs : List X) (i : ℕ) (y : X) → at d (put e xs i y) i ≡ y
at-put d e [] zero y = refl
at-put d e [] (suc i) y = at-put d e [] i y
at-put d e (x ∷ xs) zero y = refl
at-put d e (x ∷ xs) (suc i) y = at-put d e xs i y

-- it changes no other, where what nobody wrote reads alike
pub at-put-other : {X : Type 0} (d : X) (xs : List X) (i k : ℕ) (y : X) → k ≢ i → at d (put d xs i y) k ≡ at d xs k
at-put-other d [] zero zero y other = absurd (other refl)
at-put-other d [] zero (suc k) y other = refl
at-put-other d [] (suc i) zero y other = refl
at-put-other d [] (suc i) (suc k) y other = at-put-other d [] i k y (λ same. other (ap suc same))
at-put-other d (x ∷ xs) zero zero y other = absurd (other refl)
at-put-other d (x ∷ xs) zero (suc k) y other = refl
at-put-other d (x ∷ xs) (suc i) zero y other = refl
at-put-other d (x ∷ xs) (suc i) (suc k) y other = at-put-other d xs i k y (λ same. other (ap suc same))

-- it changes no other within the list
pub at-put-within : {X : Type 0} (d e : X) (xs : List X) (i k : ℕ) (y : X) → k ≢ i → k < length xs → at d (put e xs i y) k ≡ at d xs k
at-put-within d e [] i k y other within = absurd (omega arith)
at-put-within d e (x ∷ xs) zero zero y other within = absurd (other refl)
at-put-within d e (x ∷ xs) zero (suc k) y other within = refl
at-put-within d e (x ∷ xs) (suc i) zero y other within = refl
at-put-within d e (x ∷ xs) (suc i) (suc k) y other within = at-put-within d e xs i k y (λ same. other (ap suc same)) (omega arith)

-- within the list its length stays
pub length-put : {X : Type 0} (d : X) (xs : List X) (i : ℕ) (y : X) → i < length xs → length (put d xs i y) ≡ length xs
length-put d [] i y within = absurd (omega arith)
length-put d (x ∷ xs) zero y within = refl
length-put d (x ∷ xs) (suc i) y within = ap suc (length-put d xs i y (omega arith))

-- the list never gets shorter
pub length-put-le : {X : Type 0} (d : X) (xs : List X) (i : ℕ) (y : X) → length xs ≤ length (put d xs i y)
length-put-le d [] i y = omega arith
length-put-le d (x ∷ xs) zero y = omega arith
length-put-le d (x ∷ xs) (suc i) y = let rest = length-put-le d xs i y in omega arith

-- within the list it is std's `set`
pub set_put : {X : Type 0} (d : X) (xs : List X) (i : ℕ) (y : X) → i < length xs → set xs i y ≡ put d xs i y
set_put d [] i y within = absurd (omega arith)
set_put d (x ∷ xs) zero y within = refl
set_put d (x ∷ xs) (suc i) y within = ap (λ (rest : List _). x ∷ rest) (set_put d xs i y (omega arith))

-- putting twice at a place is putting once
pub put-put : {X : Type 0} (d : X) (xs : List X) (i : ℕ) (y z : X) → put d (put d xs i y) i z ≡ put d xs i z
put-put d [] zero y z = refl
put-put d [] (suc i) y z = ap (λ (rest : List _). d ∷ rest) (put-put d [] i y z)
put-put d (x ∷ xs) zero y z = refl
put-put d (x ∷ xs) (suc i) y z = ap (λ (rest : List _). x ∷ rest) (put-put d xs i y z)

-- entries that all are the default
pub at-replicate : {X : Type 0} (d : X) (n i : ℕ) → at d (replicate n d) i ≡ d
at-replicate d zero i = refl
at-replicate d (suc n) zero = refl
at-replicate d (suc n) (suc i) = at-replicate d n i

-- the entry of a list that is made index by index
pub at-map-range : {X : Type 0} (d : X) (f : ℕ → X) (n a k : ℕ) → k < n → at d (map f (range_with_len a n)) k ≡ f (a + k)
at-map-range d f zero a k within = absurd (omega arith)
at-map-range d f (suc n) a zero within = ap f (omega arith)
at-map-range d f (suc n) a (suc k) within = at-map-range d f n (a + 1) k (omega arith) ∙ ap f (omega arith)

-- the entry of a list whose entries were turned
pub at-map : {X Y : Type 0} (d : X) (e : Y) (f : X → Y) (xs : List X) (k : ℕ) → k < length xs → at e (map f xs) k ≡ f (at d xs k)
at-map d e f [] k within = absurd (omega arith)
at-map d e f (x ∷ xs) zero within = refl
at-map d e f (x ∷ xs) (suc k) within = at-map d e f xs k (omega arith)

-- within the list the entry is the one that std's words read
pub at_index : {X : Type 0} (d e : X) (xs : List X) (i : ℕ) → i < length xs → at d xs i ≡ slice_index_or xs i e
at_index d e [] i within = absurd (omega arith)
at_index d e (x ∷ xs) zero within = refl
at_index d e (x ∷ xs) (suc i) within = at_index d e xs i (omega arith)

-- behind its end nobody wrote
pub at_behind : {X : Type 0} (d : X) (xs : List X) (i : ℕ) → length xs ≤ i → at d xs i ≡ d
at_behind d [] i behind = refl
at_behind d (x ∷ xs) zero behind = absurd (omega arith)
at_behind d (x ∷ xs) (suc i) behind = at_behind d xs i (omega arith)

-- within the list no default is read
pub at-any : {X : Type 0} (d e : X) (xs : List X) (i : ℕ) → i < length xs → at d xs i ≡ at e xs i
at-any d e [] i within = absurd (omega arith)
at-any d e (x ∷ xs) zero within = refl
at-any d e (x ∷ xs) (suc i) within = at-any d e xs i (omega arith)

-- a list with its own entry put back
pub put-at : {X : Type 0} (d e : X) (xs : List X) (i : ℕ) → i < length xs → put e xs i (at d xs i) ≡ xs
put-at d e [] i within = absurd (omega arith)
put-at d e (x ∷ xs) zero within = refl
put-at d e (x ∷ xs) (suc i) within = ap (λ (rest : List _). x ∷ rest) (put-at d e xs i (omega arith))

-- what is read of each entry stays where the one that is put reads alike
pub map-put : {X Y : Type 0} (f : X → Y) (d e : X) (xs : List X) (i : ℕ) (y : X) → i < length xs → f y ≡ f (at d xs i) → map f (put e xs i y) ≡ map f xs
map-put f d e [] i y within same = absurd (omega arith)
map-put f d e (x ∷ xs) zero y within same = ap (λ (first : _). first ∷ map f xs) same
map-put f d e (x ∷ xs) (suc i) y within same = ap (λ (rest : List _). f x ∷ rest) (map-put f d e xs i y (omega arith) same)

-- what is read of each entry, index by index
pub map-indices : {X Y : Type 0} (f : X → Y) (d : X) (g : ℕ → Y) (xs : List X) (a : ℕ)
    → ((i : ℕ) → i < length xs → f (at d xs i) ≡ g (a + i)) → map f xs ≡ map g (range_with_len a (length xs))
map-indices f d g [] a same = refl
map-indices f d g (x ∷ xs) a same =
    let here : a + 0 ≡ a = omega arith in
    let first : f x ≡ g a = same 0 (omega arith) ∙ ap g here in
    let rest : map f xs ≡ map g (range_with_len (a + 1) (length xs)) =
    map-indices f d g xs (a + 1) (λ i within. let there : a + suc i ≡ a + 1 + i = omega arith in
    same (suc i) (omega arith) ∙ ap g there) in
    λ j. first j ∷ rest j
