use Rattle.std.proofs.Common.{ap, ◌∙◌}
use Rattle.field_byte.specs.Field.{product}
use Rattle.field_byte.proofs.Nibbles.{product_by_halves}
use Rattle.field_byte.proofs.split.Split.mul.Goals as goal

pub returns : goal.returns
returns c =
    let by_halves = product_by_halves _ c.args.b c.self.inside.low c.self.inside.high c.self.invariant c.ranges.b.fits in
    by_halves ∙ ap (λ k. product k c.args.b) c.self.view_is
