-- The laws of the product and of inverses, for bytes: what a proof above this crate cites.
use Rattle.std.proofs.Common.{◌≡◌, ◌≢◌, ℕ, zero, suc, ◌+◌, ◌-◌, ◌<◌, ◌≤◌, ◌==◌, ◌⊎◌, bit_xor, inl, inr, sym, ap, ap₂, ◌∙◌, add_comm, add_assoc, arith}
use Rattle.std.proofs.lemmas.Bool.{cases_eq, eq-eqb, ne_eqb, cond_both}
use Rattle.field_byte.specs.Field.{product, inverse_below, inverse, power}
use Rattle.field_byte.proofs.Sums.{sum_lt}
use Rattle.field_byte.proofs.Doubling.{bits_lt, bits_sum, bits_zero_l, bits_zero_r}
use Rattle.field_byte.proofs.Powers as powers
use Rattle.field_byte.proofs.Powers.{IsLog, log, log_of_byte, power_add, power_lt, power_nonzero, full_turn}

pub product_lt : (a b : ℕ) → a < 256 → product a b < 256
unfolding product
product_lt a b a_byte = bits_lt 8 a b a_byte

pub product_zero_l : (b : ℕ) → product 0 b ≡ 0
unfolding product
product_zero_l b = bits_zero_l 8 b

pub product_zero_r : (a : ℕ) → product a 0 ≡ 0
unfolding product
product_zero_r a = bits_zero_r 8 a

pub product_sum_l : (a b c : ℕ) → a < 256 → b < 256 → product (bit_xor a b) c ≡ bit_xor (product a c) (product b c)
unfolding product
product_sum_l a b c a_byte b_byte = bits_sum 8 a b c a_byte b_byte

-- a byte is 0 or a power
pub as_power : (a : ℕ) → a < 256 → (a ≡ 0) ⊎ IsLog a (log a)
as_power a a_byte = elim (cases_eq a 0) [ inl is_zero ↦ inl is_zero | inr nonzero ↦ inr (log_of_byte a a_byte nonzero) ]

pub product_of_powers : (a b : ℕ) → IsLog a (log a) → IsLog b (log b) → product a b ≡ power (log a + log b)
product_of_powers a b a_log b_log = ap₂ product (sym a_log.power) (sym b_log.power) ∙ power_add _ _

pub product_comm : (a b : ℕ) → a < 256 → b < 256 → product a b ≡ product b a
product_comm a b a_byte b_byte = elim (as_power a a_byte) [
  | inl a_zero ↦ ap (λ x. product x b) a_zero ∙ (product_zero_l b ∙ (sym (product_zero_r b) ∙ ap (product b) (sym a_zero)))
  | inr a_log ↦ elim (as_power b b_byte) [
    | inl b_zero ↦ ap (product a) b_zero ∙ (product_zero_r a ∙ (sym (product_zero_l a) ∙ ap (λ x. product x a) (sym b_zero)))
    | inr b_log ↦ product_of_powers a b a_log b_log ∙ (ap power (add_comm (log a) (log b)) ∙ sym (product_of_powers b a b_log a_log))
  ]
]

pub product_sum_r : (a b c : ℕ) → a < 256 → b < 256 → c < 256 → product a (bit_xor b c) ≡ bit_xor (product a b) (product a c)
product_sum_r a b c a_byte b_byte c_byte =
    product_comm a (bit_xor b c) a_byte (sum_lt b c b_byte c_byte)
    ∙ (product_sum_l b c a b_byte c_byte ∙ ap₂ bit_xor (product_comm b a b_byte a_byte) (product_comm c a c_byte a_byte))

associates : (i j k : ℕ) → product (product (power i) (power j)) (power k) ≡ product (power i) (product (power j) (power k))
associates i j k =
    ap (λ x. product x (power k)) (power_add i j) ∙ (power_add (i + j) k
    ∙ (ap power (add_assoc i j k) ∙ (sym (power_add i (j + k)) ∙ ap (product (power i)) (sym (power_add j k)))))

pub product_assoc : (a b c : ℕ) → a < 256 → b < 256 → c < 256 → product (product a b) c ≡ product a (product b c)
product_assoc a b c a_byte b_byte c_byte = elim (as_power a a_byte) [
  | inl a_zero ↦ simp (a_zero, product_zero_l)
  | inr a_log ↦ elim (as_power b b_byte) [
    | inl b_zero ↦ simp (b_zero, product_zero_l, product_zero_r)
    | inr b_log ↦ elim (as_power c c_byte) [
      | inl c_zero ↦ simp (c_zero, product_zero_r)
      | inr c_log ↦ simp (a_log.power, b_log.power, c_log.power) at (associates (log a) (log b) (log c))
    ]
  ]
]

pub product_one_l : (a : ℕ) → a < 256 → product 1 a ≡ a
product_one_l a a_byte = powers.product_one_l a a_byte

pub product_one_r : (a : ℕ) → a < 256 → product a 1 ≡ a
product_one_r a a_byte = product_comm a 1 a_byte (omega arith) ∙ product_one_l a a_byte

pub product_nonzero : (a b : ℕ) → a < 256 → b < 256 → a ≢ 0 → b ≢ 0 → product a b ≢ 0
product_nonzero a b a_byte b_byte a_nonzero b_nonzero is_zero =
    power_nonzero _ (sym (product_of_powers a b (log_of_byte a a_byte a_nonzero) (log_of_byte b b_byte b_nonzero)) ∙ is_zero)

pub zero_factor : (a b : ℕ) → a < 256 → b < 256 → product a b ≡ 0 → (a ≡ 0) ⊎ (b ≡ 0)
zero_factor a b a_byte b_byte is_zero = elim (cases_eq a 0) [
  | inl a_zero ↦ inl a_zero
  | inr a_nonzero ↦ elim (cases_eq b 0) [
    | inl b_zero ↦ inr b_zero
    | inr b_nonzero ↦ absurd (product_nonzero a b a_byte b_byte a_nonzero b_nonzero is_zero)
  ]
]

-- the power that completes a turn is the inverse
pub product_of_turn : (a : ℕ) → a < 256 → a ≢ 0 → product a (power (255 - log a)) ≡ 1
product_of_turn a a_byte nonzero =
    let a_log = log_of_byte a a_byte nonzero in
    let below : log a < 255 = a_log.below in
    ap (λ x. product x (power (255 - log a))) (sym a_log.power) ∙ (power_add _ _ ∙ (ap power (omega arith) ∙ full_turn))

-- two inverses of one byte are the same
pub same_inverse : (a b c : ℕ) → a < 256 → b < 256 → c < 256 → product a b ≡ 1 → product a c ≡ 1 → b ≡ c
same_inverse a b c a_byte b_byte c_byte by_b by_c =
    sym (product_one_r b b_byte) ∙ (ap (product b) (sym by_c) ∙ (sym (product_assoc b a c b_byte a_byte c_byte)
    ∙ (ap (λ x. product x c) (product_comm b a b_byte a_byte ∙ by_b) ∙ product_one_l c c_byte)))

-- a search finds an inverse where there is one
found_below : (n a b : ℕ) → b < n → product a b ≡ 1 → product a (inverse_below n a) ≡ 1
unfolding inverse_below
found_below zero a b below inverts = absurd (omega arith)
found_below (suc n) a b below inverts = elim (cases_eq (product a n) 1) [
  | inl here ↦ rw (eq-eqb (product a n) 1 here) here
  | inr other ↦
      let earlier : b ≢ n = λ same. other (ap (product a) (sym same) ∙ inverts) in
      rw (ne_eqb (product a n) 1 other) (found_below n a b (omega arith) inverts)
]

inverse_below_lt : (n a : ℕ) → n ≤ 256 → inverse_below n a < 256
unfolding inverse_below
inverse_below_lt zero a small = omega arith
inverse_below_lt (suc n) a small = cond_both (product a n == 1) n (inverse_below n a) (λ x. x < 256)
    (λ yes. omega arith) (λ no. inverse_below_lt n a (omega arith))

-- also of 0, which has none
pub inverse_lt : (a : ℕ) → inverse a < 256
unfolding inverse
inverse_lt a = inverse_below_lt 256 a (omega arith)

pub product_inverse : (a : ℕ) → a < 256 → a ≢ 0 → product a (inverse a) ≡ 1
unfolding inverse
product_inverse a a_byte nonzero = found_below 256 a _ (power_lt _) (product_of_turn a a_byte nonzero)

-- a factor of 1 is not 0
pub nonzero_factor : (a b : ℕ) → product a b ≡ 1 → a ≢ 0
nonzero_factor a b inverts is_zero =
    let zero_product = ap (λ x. product x b) is_zero ∙ product_zero_l b in cc

pub inverse_is : (a b : ℕ) → a < 256 → b < 256 → product a b ≡ 1 → b ≡ inverse a
inverse_is a b a_byte b_byte inverts =
    let nonzero = nonzero_factor a b inverts in
    same_inverse a b (inverse a) a_byte b_byte (inverse_lt a) inverts (product_inverse a a_byte nonzero)

pub inverse_nonzero : (a : ℕ) → a < 256 → a ≢ 0 → inverse a ≢ 0
inverse_nonzero a a_byte nonzero =
    nonzero_factor (inverse a) a (product_comm (inverse a) a (inverse_lt a) a_byte ∙ product_inverse a a_byte nonzero)
