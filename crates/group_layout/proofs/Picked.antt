-- What is one group's among things that each are of a group, place by place.
use Rattle.std.proofs.Common.{ℕ, zero, suc, ◌≡◌, ◌<◌, ◌≤◌, ◌+◌, ◌==◌, Bool, true, false, List, [], ◌∷◌, ◌++◌, length}
use Rattle.std.proofs.Common.{take, Some, ◌⊎◌, inl, inr, refl, sym, ap, ◌∙◌, arith}
use Rattle.std.specs.Prelude.{slice_get}
use Rattle.std.proofs.lemmas.Bool.{cases_lt, eq-eqb}
use Rattle.std.proofs.lemmas.Option.{slice_get_within}
use Rattle.group_run.specs.World.{front_if}
use Rattle.law_moves.proofs.Reading.{some-same}
use Rattle.group_layout.specs.Within.{of_group}
use Rattle.group_layout.proofs.Moves.{IsOrNot, is-or-not}

pub no-get : {X : Type 0} (i : ℕ) (x : X) → slice_get [] i ≡ Some x → ⊥
no-get i x is = let below = slice_get_within [] i x is in omega (arith, below)

pub get-append : {X : Type 0} (xs ys : List X) (i : ℕ) (x : X) → slice_get xs i ≡ Some x → slice_get (xs ++ ys) i ≡ Some x
get-append [] ys i x is = absurd (no-get i x is)
get-append (z ∷ zs) ys zero x is = is
get-append (z ∷ zs) ys (suc i) x is = get-append zs ys i x is

get-skip : {Y : Type 0} (b : Bool) (z : Y) (zs us : List Y) → slice_get (front_if b z zs) (length (front_if b z us)) ≡ slice_get zs (length us)
get-skip true z zs us = refl
get-skip false z zs us = refl

take-skip : {Y : Type 0} (b : Bool) (z : Y) (zs us : List Y) → take (length (front_if b z us)) (front_if b z zs) ≡ front_if b z (take (length us) zs)
take-skip true z zs us = refl
take-skip false z zs us = refl

longer : {Y : Type 0} (b : Bool) (z : Y) (us vs : List Y) → length us ≤ length vs → length (front_if b z us) ≤ length (front_if b z vs)
longer true z us vs le = omega (arith, le)
longer false z us vs le = le

longer-by-one : {Y : Type 0} (b : Bool) (z : Y) (us vs : List Y) → length vs ≡ suc (length us) → length (front_if b z vs) ≡ suc (length (front_if b z us))
longer-by-one true z us vs is = ap suc is
longer-by-one false z us vs is = is

module _ {X Y : Type 0} (group : X → ℕ) (part : X → Y) (j : ℕ) where
  abbrev pub picked : List X → List Y
  picked xs = of_group group part j xs

  -- how many are picked before a place
  abbrev pub place : List X → ℕ → ℕ
  place xs i = length (picked (take i xs))

  pub get-picked : (xs : List X) (i : ℕ) (x : X) → slice_get xs i ≡ Some x → group x ≡ j → slice_get (picked xs) (place xs i) ≡ Some (part x)
  get-picked [] i x is same = absurd (no-get i x is)
  get-picked (y ∷ ys) zero x is same =
      let here : y ≡ x = some-same y x is in
      let word : (group y == j) ≡ true = eq-eqb (group y) j (ap group here ∙ same) in
      ap (λ (b : Bool). slice_get (front_if b (part y) (picked ys)) 0) word ∙ ap (λ (z : X). Some (part z)) here
  get-picked (y ∷ ys) (suc i) x is same = get-skip (group y == j) (part y) (picked ys) (picked (take i ys)) ∙ get-picked ys i x is same

  pub take-picked : (xs : List X) (i : ℕ) → take (place xs i) (picked xs) ≡ picked (take i xs)
  take-picked [] zero = refl
  take-picked [] (suc i) = refl
  take-picked (y ∷ ys) zero = refl
  take-picked (y ∷ ys) (suc i) = take-skip (group y == j) (part y) (picked ys) (picked (take i ys)) ∙ ap (front_if (group y == j) (part y)) (take-picked ys i)

  pub place-next : (xs : List X) (i : ℕ) (x : X) → slice_get xs i ≡ Some x → group x ≡ j → place xs (suc i) ≡ suc (place xs i)
  place-next [] i x is same = absurd (no-get i x is)
  place-next (y ∷ ys) zero x is same =
      let word : (group y == j) ≡ true = eq-eqb (group y) j (ap group (some-same y x is) ∙ same) in
      ap (λ (b : Bool). length (front_if b (part y) (picked (take 0 ys)))) word
  place-next (y ∷ ys) (suc i) x is same = longer-by-one (group y == j) (part y) (picked (take i ys)) (picked (take (suc i) ys)) (place-next ys i x is same)

  pub place-rises : (xs : List X) (a b : ℕ) → a ≤ b → place xs a ≤ place xs b
  place-rises [] zero b le = omega arith
  place-rises [] (suc a) b le = omega arith
  place-rises (y ∷ ys) zero b le = omega arith
  place-rises (y ∷ ys) (suc a) zero le = absurd (omega (arith, le))
  place-rises (y ∷ ys) (suc a) (suc b) le = longer (group y == j) (part y) (picked (take a ys)) (picked (take b ys)) (place-rises ys a b (omega (arith, le)))

  -- places are in order
  pub in-order : (xs : List X) (a i : ℕ) (x : X) → slice_get xs i ≡ Some x → group x ≡ j → place xs a ≤ place xs i → a ≤ i
  in-order xs a i x is same le = by (cases_lt i a) where
    by : (i < a) ⊎ (a ≤ i) → a ≤ i
    by (inl later) =
        let next = place-next xs i x is same in
        let rises = place-rises xs (suc i) a (omega (arith, later)) in
        absurd (omega (arith, next, rises, le))
    by (inr earlier) = earlier

  -- where what is picked stood
  pub record Stood (xs : List X) (place_of : ℕ) (y : Y) : Type 0 where
    pub at : ℕ
    pub thing : X
    pub there : slice_get xs at ≡ Some thing
    pub own : group thing ≡ j
    pub is : part thing ≡ y
    pub here : place xs at ≡ place_of

  pub stood : (xs : List X) (i : ℕ) (y : Y) → slice_get (picked xs) i ≡ Some y → Stood xs i y
  stood [] i y is = absurd (no-get i y is)
  stood (z ∷ zs) i y is = by i is (λ n there. stood zs n y there) (is-or-not (group z) j) where
    on : (n m : ℕ) → Stood zs n y → length (front_if (group z == j) (part z) []) + n ≡ m → Stood (z ∷ zs) m y
    on n m before sum = record {
      at = suc before.at;
      thing = before.thing;
      there = before.there;
      own = before.own;
      is = before.is;
      here = front-long (group z == j) (part z) (picked (take before.at zs))
          ∙ ap (λ (l : ℕ). length (front_if (group z == j) (part z) []) + l) before.here ∙ sum;
    } where
      front-long : (b : Bool) (v : Y) (vs : List Y) → length (front_if b v vs) ≡ length (front_if b v []) + length vs
      front-long true v vs = omega arith
      front-long false v vs = omega arith

    by : (i : ℕ) → slice_get (picked (z ∷ zs)) i ≡ Some y → ((n : ℕ) → slice_get (picked zs) n ≡ Some y → Stood zs n y)
        → IsOrNot (group z) j → Stood (z ∷ zs) i y
    by zero is rest (inl (word, same)) =
        record {
          at = 0;
          thing = z;
          there = refl;
          own = same;
          is = some-same (part z) y (ap (λ (b : Bool). slice_get (front_if b (part z) (picked zs)) 0) (sym word) ∙ is);
          here = refl;
        }
    by (suc i) is rest (inl (word, same)) =
        on i (suc i) (rest i (ap (λ (b : Bool). slice_get (front_if b (part z) (picked zs)) (suc i)) (sym word) ∙ is))
        (ap (λ (b : Bool). length (front_if b (part z) []) + i) word ∙ omega arith)
    by i is rest (inr (word, other)) =
        on i i (rest i (ap (λ (b : Bool). slice_get (front_if b (part z) (picked zs)) i) (sym word) ∙ is))
        (ap (λ (b : Bool). length (front_if b (part z) []) + i) word ∙ omega arith)
