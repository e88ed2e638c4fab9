-- What the tables of logarithms and of half products give.
use Rattle.std.proofs.Common.{◌≡◌, ◌≢◌, ℕ, ◌+◌, ◌-◌, ◌<◌, ◌%◌, slice_index, sym, ap, ◌∙◌, arith}
use Rattle.field_byte.specs.Field.{product}
use Rattle.field_byte.specs.declared.tables.TheConstants.{EXP, LOG}
use Rattle.field_byte.proofs.Powers.{log, log_of_byte, exp_is_power, power_mod}
use Rattle.field_byte.proofs.Products.{product_of_powers, product_of_turn}

-- the antilogarithm of the sum of two logarithms
pub product_by_logs : (a b : ℕ) → a < 256 → b < 256 → a ≢ 0 → b ≢ 0 → slice_index EXP ((slice_index LOG a + slice_index LOG b) % 255) ≡ product a b
unfolding log
product_by_logs a b a_byte b_byte a_nonzero b_nonzero =
    let a_log = log_of_byte a a_byte a_nonzero in
    let b_log = log_of_byte b b_byte b_nonzero in
    exp_is_power _ (omega arith)
    ∙ (power_mod (slice_index LOG a + slice_index LOG b) (omega (arith, a_log.below, b_log.below)) ∙ sym (product_of_powers a b a_log b_log))

-- the antilogarithm of what the logarithm lacks of a turn
pub inverse_by_log : (a : ℕ) → a < 256 → a ≢ 0 → product a (slice_index EXP (255 - slice_index LOG a)) ≡ 1
unfolding log
inverse_by_log a a_byte nonzero =
    let a_log = log_of_byte a a_byte nonzero in
    ap (product a) (exp_is_power (255 - slice_index LOG a) (omega arith)) ∙ product_of_turn a a_byte nonzero
