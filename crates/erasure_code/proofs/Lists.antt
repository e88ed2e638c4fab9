-- Parts of lists that are put together, and places of different numbers.
use Rattle.std.proofs.Common.{◌≡◌, ◌≢◌, ℕ, zero, suc, ◌+◌, ◌<◌, List, ◌++◌, length, get_or, replicate, All, inl, inr, sym, ◌∙◌, refl, arith}
use Rattle.std.proofs.lemmas.Bool.{cases_lt}
use Rattle.std.proofs.lemmas.List.{length-append, get_or_append_left, get_or-append-add, get_or_default}
use Rattle.std.proofs.lemmas.List.Elements.{Contains-append_cases}
use Rattle.erasure_code.specs.Columns.{AreDifferent, IsEachBelow}

pub get_or-zeros : (n at : ℕ) → get_or {A = ℕ} (replicate n 0) at 0 ≡ 0
get_or-zeros zero at = refl
get_or-zeros (suc n) zero = refl
get_or-zeros (suc n) (suc at) = get_or-zeros n at

pub All-left : {X : Type 0} (P : X → Type 0) (xs ys : List X) → All P (xs ++ ys) → All P xs
All-left P xs ys all k d below = rw (← get_or_append_left xs ys d k below) (all k d (omega (arith, length-append xs ys, below)))

pub All-right : {X : Type 0} (P : X → Type 0) (xs ys : List X) → All P (xs ++ ys) → All P ys
All-right P xs ys all k d below = rw (← get_or-append-add xs ys k d) (all (length xs + k) d (omega (arith, length-append xs ys, below)))

pub differ_left : (xs ys : List ℕ) → AreDifferent (xs ++ ys) → AreDifferent xs
differ_left xs ys differ i j d before below same =
    differ i j d before (omega (arith, length-append xs ys, below))
    (get_or_append_left xs ys d i (omega (arith, before, below)) ∙ (same ∙ sym (get_or_append_left xs ys d j below)))

pub differ_right : (xs ys : List ℕ) → AreDifferent (xs ++ ys) → AreDifferent ys
differ_right xs ys differ i j d before below same =
    differ (length xs + i) (length xs + j) d (omega (arith, before)) (omega (arith, length-append xs ys, below))
    (get_or-append-add xs ys i d ∙ (same ∙ sym (get_or-append-add xs ys j d)))

pub differ_across : (xs ys : List ℕ) → AreDifferent (xs ++ ys) → (i j d : ℕ) → i < length xs → j < length ys → get_or xs i d ≢ get_or ys j d
differ_across xs ys differ i j d left right same =
    differ i (length xs + j) d (omega (arith, left)) (omega (arith, length-append xs ys, right))
    (get_or_append_left xs ys d i left ∙ (same ∙ sym (get_or-append-add xs ys j d)))

-- two places of one number are one place
pub same_place : (xs : List ℕ) → AreDifferent xs → (i j : ℕ) → i < length xs → j < length xs → get_or xs i 0 ≡ get_or xs j 0 → i ≡ j
same_place xs differ i j i_below j_below same = elim (cases_lt i j) [
  | inl before ↦ absurd (differ i j 0 before j_below same)
  | inr after ↦ elim (cases_lt j i) [
    | inl before ↦ absurd (differ j i 0 before i_below (sym same))
    | inr not_after ↦ omega (arith, after, not_after)
  ]
]

-- each number below k is in the one list or the other
pub either : (k : ℕ) (xs ys : List ℕ) (P : ℕ → Type 0) → IsEachBelow k (xs ++ ys)
    → ((i : ℕ) → i < length xs → P (get_or xs i 0)) → ((j : ℕ) → j < length ys → P (get_or ys j 0)) → (d : ℕ) → d < k
    → P d
either k xs ys P each of_xs of_ys d below = elim (Contains-append_cases xs ys d (each.all d below)) [
  | inl here ↦ rw (← get_or_default xs here.0 0 d here.1 ∙ here.2) (of_xs here.0 here.1)
  | inr here ↦ rw (← get_or_default ys here.0 0 d here.1 ∙ here.2) (of_ys here.0 here.1)
]
