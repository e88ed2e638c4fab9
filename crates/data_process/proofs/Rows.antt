-- Different numbers below a bound, as far as they were looked at.
use Rattle.std.proofs.Common.{◌≡◌, ◌≢◌, ℕ, zero, suc, ◌+◌, ◌<◌, ◌==◌, ◌||◌, Bool, true, false, List, [], ◌∷◌, length}
use Rattle.std.proofs.Common.{take, get_or, Contains, refl, sym, ap, subst, ◌∙◌, eq-eqb, eqb-true, inl, inr, arith}
use Rattle.std.specs.List.{list_any}
use Rattle.std.proofs.lemmas.Bool.{cases_lt, true≢false}
use Rattle.std.proofs.lemmas.List.{get_or-take, get_or_default, length-take-le}
use Rattle.data_process.specs.Coming.{AreRows}

-- the first n of them are
pub record AreRowsBefore (m : ℕ) (rows : List ℕ) (n : ℕ) : Type 0 where
  pub in_group : (i d : ℕ) → i < n → get_or rows i d < m
  pub differ : (i j d : ℕ) → i < j → j < n → get_or rows i d ≢ get_or rows j d

any_at : (xs : List ℕ) (x i : ℕ) → i < length xs → get_or xs i x ≡ x → list_any (λ y. y == x) xs ≡ true
any_at [] x i below here = absurd (omega arith)
any_at (y ∷ ys) x zero below here = ap (λ t. t || list_any (λ z. z == x) ys) (eq-eqb y x here)
any_at (y ∷ ys) x (suc i) below here = by (any_at ys x i (omega arith) here) (y == x)
  where
    by : list_any (λ z. z == x) ys ≡ true → (t : Bool) → (t || list_any (λ z. z == x) ys) ≡ true
    by rest true = refl
    by rest false = rest

any_found : (xs : List ℕ) (x : ℕ) → list_any (λ y. y == x) xs ≡ true → Contains xs x
any_found [] x no_one = absurd (true≢false (sym no_one))
any_found (y ∷ ys) x found = by (any_found ys x) (y == x) refl
  where
    by : (list_any (λ z. z == x) ys ≡ true → Contains ys x) → (t : Bool) → (y == x) ≡ t → Contains (y ∷ ys) x
    by deeper true same = (0, omega arith, eqb-true y x same)
    by deeper false apart =
        let rest = deeper (subst (λ t. (t || list_any (λ z. z == x) ys) ≡ true) apart found) in
        (suc rest.0, omega (arith, rest.1), rest.2)

-- a number that stands at place n
module _ (m : ℕ) (rows : List ℕ) (n e : ℕ) (within : n < length rows) where
  -- one more, that isn't among those before
  pub one-more : get_or rows n e < m → list_any (λ y. y == get_or rows n e) (take n rows) ≡ false → AreRowsBefore m rows n → AreRowsBefore m rows (n + 1)
  one-more below new before = record {
    in_group = λ i d under. elim (cases_lt i n) [
      | inl earlier ↦ before.in_group i d earlier
      | inr last ↦
          let here : i ≡ n = omega (arith, last, under) in
          subst (λ x. get_or rows x d < m) (sym here) (subst (λ x. x < m) (get_or_default rows n e d within) below)
    ];
    differ = λ i j d lt under. elim (cases_lt j n) [
      | inl earlier ↦ before.differ i j d lt earlier
      | inr last ↦
          let here : j ≡ n = omega (arith, last, under) in
          let less : i < n = omega (arith, lt, here) in
          let row : ℕ = get_or rows n e in
          subst (λ x. get_or rows i d ≢ get_or rows x d) (sym here) (λ same.
          let taken : get_or (take n rows) i row ≡ row =
          get_or-take n rows i row less ∙ get_or_default rows i row d (omega (arith, less, within)) ∙ same ∙ get_or_default rows n d e within in
          true≢false (sym (any_at (take n rows) row i (omega (arith, less, within, length-take-le n rows (omega (arith, within)))) taken) ∙ new))
    ];
  }

  -- one that is among them
  pub seen-before : list_any (λ y. y == get_or rows n e) (take n rows) ≡ true → ¬ (AreRows m rows)
  seen-before found are =
      let row : ℕ = get_or rows n e in
      let one = any_found (take n rows) row found in
      let less : one.0 < n = omega (arith, one.1, length-take-le n rows (omega (arith, within))) in
      are.differ one.0 n row less within (sym (get_or-take n rows one.0 row less) ∙ one.2 ∙ get_or_default rows n e row within)
