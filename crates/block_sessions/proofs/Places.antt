-- The place of the only element of a list that has a number.
use Rattle.std.proofs.Common.{◌≡◌, ◌≢◌, ℕ, zero, suc, ◌<◌, ◌==◌, not, List, [], ◌∷◌, length, map, set, get_or, filter}
use Rattle.std.proofs.Common.{refl, sym, ap, ap₂, ◌∙◌, eq-eqb, ne_eqb, arith}
use Rattle.std.specs.Prelude.{if◌then◌else◌}
use Rattle.std.specs.List.{remove}

module _ {X : Type 0} (number : X → ℕ) (n : ℕ) (d : X) where
  -- no element has the number
  module _ (y : X) where
    none_replaced : (xs : List X) → ((j : ℕ) → j < length xs → number (get_or xs j d) ≢ n) → map (λ x. if number x == n then y else x) xs ≡ xs
    none_replaced [] others = refl
    none_replaced (x ∷ xs) others =
        ap₂ (λ x' xs'. x' ∷ xs') (ap (λ t. if t then y else x) (ne_eqb (number x) n (others 0 (omega arith))))
        (none_replaced xs (λ j below. others (suc j) (omega arith)))

    -- the one at place i has it
    pub only_replaced : (xs : List X) (i : ℕ) → i < length xs → number (get_or xs i d) ≡ n → ((j : ℕ) → j < length xs → j ≢ i → number (get_or xs j d) ≢ n)
        → set xs i y ≡ map (λ x. if number x == n then y else x) xs
    only_replaced [] i below here others = absurd (omega arith)
    only_replaced (x ∷ xs) zero below here others =
        ap₂ (λ x' xs'. x' ∷ xs') (sym (ap (λ t. if t then y else x) (eq-eqb (number x) n here)))
        (sym (none_replaced xs (λ j less. others (suc j) (omega arith) (λ same. omega arith))))
    only_replaced (x ∷ xs) (suc i) below here others =
        ap₂ (λ x' xs'. x' ∷ xs') (sym (ap (λ t. if t then y else x) (ne_eqb (number x) n (others 0 (omega arith) (λ same. omega arith)))))
        (only_replaced xs i (omega arith) here (λ j less apart. others (suc j) (omega arith) (λ same. apart (omega arith))))

  none_removed : (xs : List X) → ((j : ℕ) → j < length xs → number (get_or xs j d) ≢ n) → filter (λ x. not (number x == n)) xs ≡ xs
  none_removed [] others = refl
  none_removed (x ∷ xs) others =
      ap (λ t. if not t then x ∷ filter (λ z. not (number z == n)) xs else filter (λ z. not (number z == n)) xs) (ne_eqb (number x) n (others 0 (omega arith)))
      ∙ ap (λ xs'. x ∷ xs') (none_removed xs (λ j below. others (suc j) (omega arith)))

  pub only_removed : (xs : List X) (i : ℕ) → i < length xs → number (get_or xs i d) ≡ n → ((j : ℕ) → j < length xs → j ≢ i → number (get_or xs j d) ≢ n)
      → remove xs i ≡ filter (λ x. not (number x == n)) xs
  only_removed [] i below here others = absurd (omega arith)
  only_removed (x ∷ xs) zero below here others =
      sym (ap (λ t. if not t then x ∷ filter (λ z. not (number z == n)) xs else filter (λ z. not (number z == n)) xs) (eq-eqb (number x) n here)
      ∙ none_removed xs (λ j less. others (suc j) (omega arith) (λ same. omega arith)))
  only_removed (x ∷ xs) (suc i) below here others =
      ap (λ xs'. x ∷ xs') (only_removed xs i (omega arith) here (λ j less apart. others (suc j) (omega arith) (λ same. apart (omega arith))))
      ∙ sym (ap (λ t. if not t then x ∷ filter (λ z. not (number z == n)) xs else filter (λ z. not (number z == n)) xs)
      (ne_eqb (number x) n (others 0 (omega arith) (λ same. omega arith))))
