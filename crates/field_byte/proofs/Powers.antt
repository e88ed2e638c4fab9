-- Every byte but 0 is a power of 2, so the laws of powers are the laws of the product.
use Rattle.std.proofs.Common.{add_comm, inl, inr, ◌≡◌, ◌≢◌, ℕ, zero, suc, ◌+◌, ◌-◌, ◌<◌, ◌%◌, Bool, true, not, ◌&&◌}
use Rattle.std.proofs.Common.{◌||◌, ◌==◌, nat_lt, slice_index, sym, ap, ◌∙◌, refl, arith}
use Rattle.std.proofs.lemmas.Bool.{agree_below, agree_below_at, eqb-true, eq-eqb, cases_lt}
use Rattle.std.proofs.lemmas.Bool.Decides.{nat_tests}
use Rattle.field_byte.specs.Field.{double, product_of_bits, product, power}
use Rattle.field_byte.specs.declared.tables.TheConstants.{EXP, LOG}
use Rattle.field_byte.proofs.Doubling.{bits_lt, bits_double}

abbrev always : ℕ → Bool
always n = true

-- the antilogarithm of n is the n-th power
abbrev exp_test : ℕ → Bool
exp_test n = slice_index EXP n == power n

exps_pass : agree_below exp_test always 256 ≡ true
unfolding product_of_bits product power
exps_pass = refl

pub exp_is_power : (n : ℕ) → n < 256 → slice_index EXP n ≡ power n
exp_is_power n below = eqb-true _ _ (agree_below_at exp_test always 256 n exps_pass below)

-- a byte but 0 is the power of its logarithm, which is below 255
abbrev log_test : ℕ → Bool
log_test n = (n == 0 || power (slice_index LOG n) == n) && nat_lt (slice_index LOG n) 255

logs_pass : agree_below log_test always 256 ≡ true
unfolding product_of_bits product power
logs_pass = refl

pub record IsLog (a log : ℕ) : Type 0 where
  pub power : power log ≡ a
  pub below : log < 255

-- the logarithm of a byte but 0, for those above who cannot name the table
unfoldable pub log : ℕ → ℕ
log a = slice_index LOG a

pub log_of_byte : (a : ℕ) → a < 256 → a ≢ 0 → IsLog a (log a)
unfolding log
log_of_byte a a_byte nonzero = let passed = agree_below_at log_test always 256 a logs_pass a_byte in record {
  power = grind (arith, nat_tests);
  below = grind (arith, nat_tests);
}

-- the logarithm of a power below the 255th is its exponent
abbrev turn_test : ℕ → Bool
turn_test n = slice_index LOG (power n) == n

turn_passes : agree_below turn_test always 255 ≡ true
unfolding product_of_bits product power
turn_passes = refl

pub log_of_power : (i : ℕ) → i < 255 → log (power i) ≡ i
unfolding log
log_of_power i below = eqb-true _ _ (agree_below_at turn_test always 255 i turn_passes below)

-- what 1 and 2 are as factors
abbrev one_test : ℕ → Bool
one_test n = product 1 n == n

ones_pass : agree_below one_test always 256 ≡ true
unfolding product_of_bits product
ones_pass = refl

pub product_one_l : (a : ℕ) → a < 256 → product 1 a ≡ a
product_one_l a a_byte = eqb-true _ _ (agree_below_at one_test always 256 a ones_pass a_byte)

abbrev two_test : ℕ → Bool
two_test n = product n 2 == double n

twos_pass : agree_below two_test always 256 ≡ true
unfolding product_of_bits product
twos_pass = refl

pub double_is_product : (a : ℕ) → a < 256 → product a 2 ≡ double a
double_is_product a a_byte = eqb-true _ _ (agree_below_at two_test always 256 a twos_pass a_byte)

abbrev nonzero_test : ℕ → Bool
nonzero_test n = n == 0 || not (double n == 0)

nonzeros_pass : agree_below nonzero_test always 256 ≡ true
nonzeros_pass = refl

double_nonzero : (a : ℕ) → a < 256 → a ≢ 0 → double a ≢ 0
double_nonzero a a_byte nonzero zero_double =
    let passed = agree_below_at nonzero_test always 256 a nonzeros_pass a_byte in
    let same : (double a == 0) ≡ true = eq-eqb _ _ zero_double in
    grind (arith, nat_tests)

pub power_lt : (n : ℕ) → power n < 256
unfolding power product
power_lt zero = omega arith
power_lt (suc n) = bits_lt 8 (power n) 2 (power_lt n)

power_suc : (n : ℕ) → power (suc n) ≡ double (power n)
unfolding power
power_suc n = double_is_product (power n) (power_lt n)

pub power_zero : power zero ≡ 1
unfolding power
power_zero = refl

power_zero_nonzero : power zero ≢ 0
power_zero_nonzero is_zero = cc (power_zero)

pub power_nonzero : (n : ℕ) → power n ≢ 0
power_nonzero zero is_zero = power_zero_nonzero is_zero
power_nonzero (suc n) is_zero = double_nonzero (power n) (power_lt n) (power_nonzero n) (sym (power_suc n) ∙ is_zero)

-- a power times a byte is the byte doubled as often
product_power_suc : (i b : ℕ) → product (power (suc i)) b ≡ double (product (power i) b)
unfolding product
product_power_suc i b = ap (λ x. product_of_bits 8 x b) (power_suc i) ∙ bits_double 8 (power i) b (power_lt i)

-- exponents are added where powers are multiplied
pub power_add : (i j : ℕ) → product (power i) (power j) ≡ power (i + j)
power_add zero j = ap (λ x. product x (power j)) power_zero ∙ (product_one_l (power j) (power_lt j) ∙ ap power (omega arith))
power_add (suc i) j = product_power_suc i (power j) ∙ (ap double (power_add i j) ∙ (sym (power_suc (i + j)) ∙ ap power (omega arith)))

pub full_turn : power 255 ≡ 1
unfolding product_of_bits product power
full_turn = refl

-- a whole turn changes no power
pub turn_more : (n : ℕ) → power (n + 255) ≡ power n
turn_more n = ap power (add_comm n 255) ∙ (sym (power_add 255 n) ∙ (ap (λ x. product x (power n)) full_turn ∙ product_one_l (power n) (power_lt n)))

pub power_mod : (n : ℕ) → n < 510 → power (n % 255) ≡ power n
power_mod n below = elim (cases_lt n 255) [
  | inl less ↦ ap power (omega arith)
  | inr more ↦ ap power (omega arith) ∙ (sym (turn_more (n - 255)) ∙ ap power (omega arith))
]
