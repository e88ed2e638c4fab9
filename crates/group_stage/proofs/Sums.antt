-- Sums over the views of all seats, of which one changes.
use Rattle.std.proofs.Common.{◌≡◌, ℕ, zero, suc, ◌+◌, ◌*◌, ◌<◌, ◌≤◌, ◌≢◌, List, [], ◌∷◌, ◌++◌, length, set, sym, refl}
use Rattle.std.proofs.Common.{ap, ◌∙◌, ⊎_elim, arith, nat_lt, eqb, lt-ltb, le-ltb, eq-eqb, ne_eqb, Bool, true, false}
use Rattle.std.proofs.Common.{cond}
use Rattle.std.proofs.lemmas.Bool.{cases_eq, cases_lt}
use mathlib.Core.Option.{some, some-injective, some-ne-none}
use lib.ListN.{get_elem?}
use Rattle.group_run.specs.Locality.{occurrences}
use Rattle.group_types.proofs.Eaches.{each-append}
use Rattle.group_types.specs.Each.{Each}
use Rattle.group_stage.specs.Counts.{bit, flag, total}

module _ {A : Type 0} where
  module _ (g : A → ℕ) where
    pub total-append : (l m : List A) → total g (l ++ m) ≡ total g l + total g m
    total-append [] m = omega arith
    total-append (x ∷ xs) m = omega (arith, total-append xs m)

    pub total-set : (l : List A) (j : ℕ) (v w : A) → get_elem? l j ≡ some v → total g (set l j w) + g v ≡ total g l + g w
    total-set [] j v w e = absurd (some-ne-none v (sym e))
    total-set (x ∷ xs) zero v w e = omega (arith, ap g (some-injective x v e))
    total-set (x ∷ xs) (suc j) v w e = omega (arith, total-set xs j v w e)

    pub term_le : (l : List A) (j : ℕ) (v : A) → get_elem? l j ≡ some v → g v ≤ total g l
    term_le [] j v e = absurd (some-ne-none v (sym e))
    term_le (x ∷ xs) zero v e = omega (arith, ap g (some-injective x v e))
    term_le (x ∷ xs) (suc j) v e = omega (arith, term_le xs j v e)

    pub terms_le : (l : List A) (j k : ℕ) (v u : A) → k ≢ j → get_elem? l j ≡ some v → get_elem? l k ≡ some u → g v + g u ≤ total g l
    terms_le [] j k v u n e d = absurd (some-ne-none v (sym e))
    terms_le (x ∷ xs) zero zero v u n e d = absurd (n refl)
    terms_le (x ∷ xs) zero (suc k) v u n e d = omega (arith, ap g (some-injective x v e), term_le xs k u d)
    terms_le (x ∷ xs) (suc j) zero v u n e d = omega (arith, ap g (some-injective x u d), term_le xs j v e)
    terms_le (x ∷ xs) (suc j) (suc k) v u n e d = omega (arith, terms_le xs j k v u (λ h. n (ap suc h)) e d)

  pub at_within : (l : List A) (i : ℕ) (a : A) → get_elem? l i ≡ some a → i < length l
  at_within [] i a e = absurd (some-ne-none a (sym e))
  at_within (x ∷ xs) zero a e = omega arith
  at_within (x ∷ xs) (suc i) a e = omega (arith, at_within xs i a e)

  -- one sum is at most another
  pub total_le : (f g : A → ℕ) (l : List A) → ((k : ℕ) (u : A) → get_elem? l k ≡ some u → f u ≤ g u) → total f l ≤ total g l
  total_le f g [] h = omega arith
  total_le f g (x ∷ xs) h = omega (arith, h zero x refl, total_le f g xs (λ k u e. h (suc k) u e))

  pub total_both : (f g : A → ℕ) (l : List A) → total (λ u. f u + g u) l ≡ total f l + total g l
  total_both f g [] = omega arith
  total_both f g (x ∷ xs) = omega (arith, total_both f g xs)

  pub total_scaled : (f : A → ℕ) (n : ℕ) (l : List A) → total (λ u. f u * n) l ≡ total f l * n
  total_scaled f n [] = omega arith
  total_scaled f n (x ∷ xs) = let r : total (λ u. f u * n) xs ≡ total f xs * n = total_scaled f n xs in
      ap (λ (y : ℕ). f x * n + y) r ∙ spread (f x) (total f xs) n where
        spread : (a b n : ℕ) → a * n + b * n ≡ (a + b) * n
        spread a b n = grind arith

  -- where all of f is in one place, and nothing of g is without f, all of g is there
  none_else : (f g : A → ℕ) (l : List A) → total f l ≡ 0 → ((k : ℕ) (u : A) → get_elem? l k ≡ some u → f u ≡ 0 → g u ≡ 0) → total g l ≡ 0
  none_else f g [] z h = refl
  none_else f g (x ∷ xs) z h = omega (arith, h zero x refl (omega arith), none_else f g xs (omega arith) (λ k u e. h (suc k) u e))

  pub only_one : (f g : A → ℕ) (l : List A) (j : ℕ) (v : A) → get_elem? l j ≡ some v → total f l ≤ f v
      → ((k : ℕ) (u : A) → get_elem? l k ≡ some u → f u ≡ 0 → g u ≡ 0) → total g l ≡ g v
  only_one f g [] j v e le h = absurd (some-ne-none v (sym e))
  only_one f g (x ∷ xs) zero v e le h = let same = ap f (some-injective x v e) in
      omega (arith, ap g (some-injective x v e), none_else f g xs (omega arith) (λ k u e. h (suc k) u e))
  only_one f g (x ∷ xs) (suc j) v e le h = let part = term_le f xs j v e in
      omega (arith, h zero x refl (omega arith), only_one f g xs j v e (omega arith) (λ k u e. h (suc k) u e))

  pub each-snoc : (P : A → Type 0) (l : List A) (x : A) → Each P l → P x → Each P (l ++ x ∷ [])
  each-snoc P l x all last = each-append P l (x ∷ []) all (last, tt)

-- how often a number stands in a list
pub times-append : (k : ℕ) (l m : List ℕ) → occurrences k (l ++ m) ≡ occurrences k l + occurrences k m
times-append k [] m = omega arith
times-append k (x ∷ xs) m = omega (arith, times-append k xs m)

pub times-here : (k : ℕ) (xs : List ℕ) → occurrences k (k ∷ xs) ≡ 1 + occurrences k xs
times-here k xs = ap (λ (b : Bool). cond b 1 0 + occurrences k xs) (eq-eqb k k refl)

pub times-else : (k x : ℕ) (xs : List ℕ) → x ≢ k → occurrences k (x ∷ xs) ≡ occurrences k xs
times-else k x xs n = ap (λ (b : Bool). cond b 1 0 + occurrences k xs) (ne_eqb x k n) ∙ omega arith

pub times_length : (k : ℕ) (xs : List ℕ) → occurrences k xs ≤ length xs
times_length k [] = omega arith
times_length k (x ∷ xs) = more (eqb x k) (occurrences k xs) (length xs) (times_length k xs) where
  more : (b : Bool) (a n : ℕ) → a ≤ n → cond b 1 0 + a ≤ suc n
  more true a n le = omega (arith, le)
  more false a n le = omega (arith, le)

pub bit-yes : (a b : ℕ) → a < b → bit (nat_lt a b) ≡ 1
bit-yes a b less = ap bit (lt-ltb a b less)

pub bit-no : (a b : ℕ) → b ≤ a → bit (nat_lt a b) ≡ 0
bit-no a b less = ap bit (le-ltb a b less)

-- one more below a bound
pub bit-more : (k n : ℕ) → bit (nat_lt k (suc n)) ≡ bit (nat_lt k n) + occurrences k (n ∷ [])
bit-more k n = ⊎_elim (λ (h : k < n). omega (arith, bit-yes k n h, bit-yes k (suc n) (omega arith), times-else k n [] (λ e. omega arith)))
    (λ (h : n ≤ k). ⊎_elim
    (λ (e : n ≡ k). let here : occurrences k (n ∷ []) ≡ 1 = ap (λ (x : ℕ). occurrences k (x ∷ [])) e ∙ times-here k [] in
    omega (arith, bit-no k n h, bit-yes k (suc n) (omega arith), here))
    (λ (ne : n ≢ k). let gone : occurrences k (n ∷ []) ≡ 0 = times-else k n [] ne in omega (arith, bit-no k n h, bit-no k (suc n) (omega arith), gone))
    (cases_eq n k))
    (cases_lt k n)

pub flag_le : (n : ℕ) → flag n ≤ 1
flag_le zero = omega arith
flag_le (suc n) = omega arith

pub flag-none : (n : ℕ) → flag n ≡ 0 → n ≡ 0
flag-none zero e = refl
flag-none (suc n) e = absurd (omega arith)
