-- Doubling and the product keep sums in their first factor.
use Rattle.std.proofs.Common.{◌≡◌, ℕ, zero, suc, ◌*◌, ◌/◌, ◌%◌, ◌<◌, bit_xor, sym, ap, ap₂, ◌∙◌, refl, add-zero, zero-mul, mul-zero, one-mul, arith}
use Rattle.std.specs.Int.Bits.{xor_self, xor_zero_l, xor_zero_r}
use Rattle.std.proofs.lemmas.Nat.{xor_block, xor_mod, xor_shr}
use Rattle.field_byte.specs.Field.{double, product_of_bits}
use Rattle.field_byte.proofs.Sums.{sum_lt, sum_swap}

-- doubling a byte gives a byte
pub double_lt : (a : ℕ) → a < 256 → double a < 256
double_lt a a_byte = sum_lt (a * 2 % 256) (a / 128 * 29) (omega arith) (omega arith)

-- a bit times a sum
bit_times_sum : (k a b : ℕ) → k < 2 → k * bit_xor a b ≡ bit_xor (k * a) (k * b)
bit_times_sum zero a b bit = simp zero-mul
bit_times_sum (suc zero) a b bit = simp one-mul
bit_times_sum (suc (suc k)) a b bit = absurd (omega arith)

-- a sum of bits times a number
sum_of_bits_times : (j k a : ℕ) → j < 2 → k < 2 → bit_xor j k * a ≡ bit_xor (j * a) (k * a)
sum_of_bits_times zero k a j_bit k_bit = simp (xor_zero_l, zero-mul)
sum_of_bits_times (suc zero) zero a j_bit k_bit = simp (xor_zero_r, zero-mul)
sum_of_bits_times (suc zero) (suc zero) a j_bit k_bit = zero-mul a ∙ sym (xor_self (1 * a))
sum_of_bits_times (suc (suc j)) k a j_bit k_bit = absurd (omega arith)
sum_of_bits_times (suc zero) (suc (suc k)) a j_bit k_bit = absurd (omega arith)

shifted_sum : (a b : ℕ) → bit_xor a b * 2 % 256 ≡ bit_xor (a * 2 % 256) (b * 2 % 256)
shifted_sum a b =
    let shifted : bit_xor (a * 2) (b * 2) ≡ bit_xor a b * 2 = simp add-zero at (xor_block 1 a b 0 0 (omega arith) (omega arith)) in
    ap (λ x. x % 256) (sym shifted) ∙ xor_mod (a * 2) (b * 2) 8

-- doubling keeps sums
pub double_sum : (a b : ℕ) → a < 256 → b < 256 → double (bit_xor a b) ≡ bit_xor (double a) (double b)
double_sum a b a_byte b_byte =
    let reduced : bit_xor a b / 128 * 29 ≡ bit_xor (a / 128 * 29) (b / 128 * 29) =
    ap (λ x. x * 29) (xor_shr a b 7) ∙ sum_of_bits_times (a / 128) (b / 128) 29 (omega arith) (omega arith) in
    ap₂ bit_xor (shifted_sum a b) reduced ∙ sum_swap (a * 2 % 256) (b * 2 % 256) (a / 128 * 29) (b / 128 * 29)

bit_times_lt : (k a : ℕ) → k < 2 → a < 256 → k * a < 256
bit_times_lt zero a bit a_byte = omega arith
bit_times_lt (suc zero) a bit a_byte = omega arith
bit_times_lt (suc (suc k)) a bit a_byte = absurd (omega arith)

-- a bit times a double
bit_times_double : (k a : ℕ) → k < 2 → k * double a ≡ double (k * a)
bit_times_double zero a bit = simp zero-mul
bit_times_double (suc zero) a bit = simp one-mul
bit_times_double (suc (suc k)) a bit = absurd (omega arith)

pub bits_lt : (n a b : ℕ) → a < 256 → product_of_bits n a b < 256
unfolding product_of_bits
bits_lt zero a b a_byte = omega arith
bits_lt (suc n) a b a_byte = sum_lt _ _ (bit_times_lt (b % 2) a (omega arith) a_byte) (bits_lt n (double a) (b / 2) (double_lt a a_byte))

pub bits_sum : (n a b c : ℕ) → a < 256 → b < 256 → product_of_bits n (bit_xor a b) c ≡ bit_xor (product_of_bits n a c) (product_of_bits n b c)
unfolding product_of_bits
bits_sum zero a b c a_byte b_byte = refl
bits_sum (suc n) a b c a_byte b_byte =
    let later = bits_sum n (double a) (double b) (c / 2) (double_lt a a_byte) (double_lt b b_byte) in
    ap₂ bit_xor (bit_times_sum (c % 2) a b (omega arith)) (ap (λ x. product_of_bits n x (c / 2)) (double_sum a b a_byte b_byte) ∙ later)
    ∙ sum_swap (c % 2 * a) (c % 2 * b) (product_of_bits n (double a) (c / 2)) (product_of_bits n (double b) (c / 2))

-- a factor is doubled where the product is
pub bits_double : (n a b : ℕ) → a < 256 → product_of_bits n (double a) b ≡ double (product_of_bits n a b)
unfolding product_of_bits
bits_double zero a b a_byte = refl
bits_double (suc n) a b a_byte =
    let first_byte = bit_times_lt (b % 2) a (omega arith) a_byte in
    let rest_byte = bits_lt n (double a) (b / 2) (double_lt a a_byte) in
    ap₂ bit_xor (bit_times_double (b % 2) a (omega arith)) (bits_double n (double a) (b / 2) (double_lt a a_byte))
    ∙ sym (double_sum _ _ first_byte rest_byte)

pub bits_zero_l : (n b : ℕ) → product_of_bits n 0 b ≡ 0
unfolding product_of_bits
bits_zero_l zero b = refl
bits_zero_l (suc n) b = simp (mul-zero, bits_zero_l n (b / 2))

pub bits_zero_r : (n a : ℕ) → product_of_bits n a 0 ≡ 0
unfolding product_of_bits
bits_zero_r zero a = refl
bits_zero_r (suc n) a = simp (zero-mul, bits_zero_r n (double a))
