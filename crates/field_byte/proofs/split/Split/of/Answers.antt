use Rattle.std.proofs.Common.{sym, subst}
use Rattle.field_byte.specs.Halves.{AreHalves}
use Rattle.field_byte.proofs.Nibbles.{masked, are_halves, coef_in_halves}
use Rattle.field_byte.proofs.split.Split.of.Goals as goal

pub invariant_of-result : goal.invariant_of-result
invariant_of-result c =
    let halves = are_halves c.args.coef _ _ _ _ _ _ _ c.ranges.coef.fits c.double-by_2.ensures c.double-by_4.ensures
    c.double-by_8.ensures c.double-by_16.ensures c.double-by_32.ensures
    c.double-by_64.ensures c.double-by_128.ensures in
    subst (λ coef. AreHalves coef (masked c.args.coef c.double-by_2.result c.double-by_4.result c.double-by_8.result)
    (masked c.double-by_16.result c.double-by_32.result c.double-by_64.result c.double-by_128.result))
    (sym (coef_in_halves c.args.coef _ _ halves)) halves

pub returns : goal.returns
returns c =
    let halves = are_halves c.args.coef _ _ _ _ _ _ _ c.ranges.coef.fits c.double-by_2.ensures c.double-by_4.ensures
    c.double-by_8.ensures c.double-by_16.ensures c.double-by_32.ensures
    c.double-by_64.ensures c.double-by_128.ensures in
    coef_in_halves c.args.coef _ _ halves
