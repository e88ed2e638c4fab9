-- Sums over the field of numbered terms.
use Rattle.std.proofs.Common.{◌≡◌, ◌≢◌, ℕ, zero, suc, ◌<◌, bit_xor, inl, inr, sym, ap, ap₂, ◌∙◌, refl, arith}
use Rattle.std.specs.Int.Bits.{xor_zero_l, xor_zero_r}
use Rattle.std.proofs.lemmas.Bool.{cases_eq}
use Rattle.field_byte.specs.Field.{product}
use Rattle.field_byte.specs.Vectors.{field_sum}
use Rattle.field_byte.proofs.Sums.{sum_lt, sum_swap}
use Rattle.field_byte.proofs.Products.{product_sum_l, product_sum_r, product_zero_l, product_zero_r}

-- sums of the same terms are the same
pub sum_same : (n : ℕ) (f g : ℕ → ℕ) → ((k : ℕ) → k < n → f k ≡ g k) → field_sum n f ≡ field_sum n g
unfolding field_sum
sum_same zero f g same = refl
sum_same (suc n) f g same = ap₂ bit_xor (sum_same n f g (λ k below. same k (omega arith))) (same n (omega arith))

pub sum_byte : (n : ℕ) (f : ℕ → ℕ) → ((k : ℕ) → k < n → f k < 256) → field_sum n f < 256
unfolding field_sum
sum_byte zero f bytes = omega arith
sum_byte (suc n) f bytes = sum_lt _ _ (sum_byte n f (λ k below. bytes k (omega arith))) (bytes n (omega arith))

pub sum_of_zeros : (n : ℕ) (f : ℕ → ℕ) → ((k : ℕ) → k < n → f k ≡ 0) → field_sum n f ≡ 0
unfolding field_sum
sum_of_zeros zero f zeros = refl
sum_of_zeros (suc n) f zeros = ap₂ bit_xor (sum_of_zeros n f (λ k below. zeros k (omega arith))) (zeros n (omega arith))

-- where all terms but one are 0, the sum is that one
pub sum_of_one : (n at : ℕ) (f : ℕ → ℕ) → at < n → ((k : ℕ) → k < n → k ≢ at → f k ≡ 0) → field_sum n f ≡ f at
unfolding field_sum
sum_of_one zero at f below zeros = absurd (omega arith)
sum_of_one (suc n) at f below zeros = elim (cases_eq n at) [
  | inl here ↦
      ap (λ x. bit_xor x (f n)) (sum_of_zeros n f (λ k less. zeros k (omega arith) (λ same. omega arith)))
      ∙ (xor_zero_l (f n) ∙ ap f here)
  | inr other ↦
      ap₂ bit_xor (sum_of_one n at f (omega arith) (λ k less. zeros k (omega arith))) (zeros n (omega arith) other)
      ∙ xor_zero_r (f at)
]

-- the sum of sums, term by term
pub sum_of_sums : (n : ℕ) (f g : ℕ → ℕ) → field_sum n (λ k. bit_xor (f k) (g k)) ≡ bit_xor (field_sum n f) (field_sum n g)
unfolding field_sum
sum_of_sums zero f g = refl
sum_of_sums (suc n) f g = ap (λ x. bit_xor x (bit_xor (f n) (g n))) (sum_of_sums n f g) ∙ sum_swap (field_sum n f) (field_sum n g) (f n) (g n)

-- a factor goes into each term
pub sum_times_l : (n c : ℕ) (f : ℕ → ℕ) → c < 256 → ((k : ℕ) → k < n → f k < 256) → product c (field_sum n f) ≡ field_sum n (λ k. product c (f k))
unfolding field_sum
sum_times_l zero c f c_byte bytes = product_zero_r c
sum_times_l (suc n) c f c_byte bytes =
    let before = λ (k : ℕ) (below : k < n). bytes k (omega arith) in
    product_sum_r c _ _ c_byte (sum_byte n f before) (bytes n (omega arith)) ∙ ap (λ x. bit_xor x (product c (f n))) (sum_times_l n c f c_byte before)

pub sum_times_r : (n c : ℕ) (f : ℕ → ℕ) → ((k : ℕ) → k < n → f k < 256) → product (field_sum n f) c ≡ field_sum n (λ k. product (f k) c)
unfolding field_sum
sum_times_r zero c f bytes = product_zero_l c
sum_times_r (suc n) c f bytes =
    let before = λ (k : ℕ) (below : k < n). bytes k (omega arith) in
    product_sum_l _ _ c (sum_byte n f before) (bytes n (omega arith)) ∙ ap (λ x. bit_xor x (product (f n) c)) (sum_times_r n c f before)

-- the order of two sums is free
pub sum_of_rows : (m n : ℕ) (f : ℕ → ℕ → ℕ) → field_sum m (λ i. field_sum n (f i)) ≡ field_sum n (λ j. field_sum m (λ i. f i j))
unfolding field_sum
sum_of_rows zero n f = sym (sum_of_zeros n (λ j. 0) (λ k below. refl))
sum_of_rows (suc m) n f =
    ap (λ x. bit_xor x (field_sum n (f m))) (sum_of_rows m n f)
    ∙ sym (sum_of_sums n (λ j. field_sum m (λ i. f i j)) (f m))
