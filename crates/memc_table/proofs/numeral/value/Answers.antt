use Rattle.std.proofs.Common.{◌*◌, ◌+◌, ◌^◌, ◌<◌, ◌∙◌, sym, slice_index, arith}
use Rattle.memc_table.proofs.Numerals.{value_after-overflow, value_after-nil, digit_value-ascii}
use Rattle.memc_table.proofs.numeral.value.Goals as goal

pub returns-in_err-checked_mul : goal.returns-in_err-checked_mul
returns-in_err-checked_mul c =
    let fits : c.digits.value * 10 < 2 ^ 64 → ⊥ = λ h. c.in_err-checked_mul.ensures h in
    c.from_residual.ensures
    ∙ sym (value_after-overflow c.digits.value c.digits.digit-index c.args.digits.now c.digits-test.true
    (omega (arith, fits))) ∙ c.digits.invariant.reads

pub returns-in_err-value : goal.returns-in_err-value
returns-in_err-value c =
    let fits : c.in_ok-checked_mul.field-0 + c.from.result < 2 ^ 64 → ⊥ = λ h. c.in_err-value.ensures h in
    let digit = digit_value-ascii (slice_index c.args.digits.now c.digits.digit-index)
    c.if-not-is_ascii_digit.ensures.cases.0 c.if-not-is_ascii_digit.ensures.cases.1 in
    c.from_residual-in_err-value.ensures
    ∙ sym (value_after-overflow c.digits.value c.digits.digit-index c.args.digits.now c.digits-test.true
    (omega (arith, fits, digit))) ∙ c.digits.invariant.reads

pub returns : goal.returns
returns c = sym (value_after-nil c.digits.value c.digits.digit-index c.args.digits.now c.digits-test.false c.digits.invariant.fits) ∙ c.digits.invariant.reads
