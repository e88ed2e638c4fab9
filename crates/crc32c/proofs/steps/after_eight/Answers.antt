use Rattle.std.proofs.Common.{bit_xor, ap, ◌∙◌, ◌≡◌, ◌<◌, ◌^◌, subst, sym, arith}
use Rattle.std.proofs.lemmas.Nat.{xor_lt}
use Rattle.crc32c.specs.Register.{shifted_by}
use Rattle.crc32c.proofs.Entries.{tables_sum}
use Rattle.crc32c.proofs.steps.after_eight.Goals as goal

pub returns : goal.returns
returns c =
    let small : c.args.register < 2 ^ 64 = omega (arith, c.ranges.register.fits) in
    let widened : bit_xor c.from.result c.args.eight ≡ bit_xor c.args.register c.args.eight = ap (λ k. bit_xor k c.args.eight) c.from.ensures in
    let lt : bit_xor c.from.result c.args.eight < 2 ^ 64 =
    subst (λ k. k < 2 ^ 64) (sym widened) (xor_lt 64 c.args.register c.args.eight small c.ranges.eight.fits) in
    tables_sum (bit_xor c.from.result c.args.eight) c.to_le_bytes.result _ _ _ _ _ _ _ _ lt c.to_le_bytes.ensures
    (record {
      is_eight = c.eight_bytes.ensures;
      is_seven = c.seven_bytes.ensures;
      is_six = c.six_bytes.ensures;
      is_five = c.five_bytes.ensures;
      is_four = c.four_bytes.ensures;
      is_three = c.three_bytes.ensures;
      is_two = c.two_bytes.ensures;
      is_one = c.one_byte.ensures;
    })
    ∙ ap (shifted_by 64) widened
