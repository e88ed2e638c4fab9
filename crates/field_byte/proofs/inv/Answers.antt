use Rattle.field_byte.proofs.Logarithms.{inverse_by_log}
use Rattle.field_byte.proofs.Products.{inverse_is}
use Rattle.field_byte.proofs.inv.Goals as goal

pub returns : goal.returns
returns c =
    let by_log = inverse_by_log c.args.a c.ranges.a.fits c.requires in
    record { inverts = cc; inverse = inverse_is c.args.a c.exp_of.result c.ranges.a.fits c.exp_of.type_inv cc }
