use Rattle.std.proofs.Common.{inl, inr, sym, ap, ◌∙◌}
use Rattle.field_byte.specs.Field.{product}
use Rattle.field_byte.proofs.Products.{product_zero_l, product_zero_r}
use Rattle.field_byte.proofs.Logarithms.{product_by_logs}
use Rattle.field_byte.proofs.mul.Goals as goal

pub returns-then-a-eq0 : goal.returns-then-a-eq0
returns-then-a-eq0 c = elim c.then-a-eq0.either [
  | inl a_zero ↦ sym (ap (λ a. product a c.args.b) a_zero ∙ product_zero_l c.args.b)
  | inr b_zero ↦ sym (ap (product c.args.a) b_zero.1 ∙ product_zero_r c.args.a)
]

pub returns : goal.returns
returns c =
    let by_logs = product_by_logs c.args.a c.args.b c.ranges.a.fits c.ranges.b.fits c.if-a-eq0.false c.if-b-eq0.false in
    cc
