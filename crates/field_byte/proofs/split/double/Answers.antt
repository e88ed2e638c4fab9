use Rattle.std.proofs.Common.{sym}
use Rattle.field_byte.proofs.Powers.{double_is_product}
use Rattle.field_byte.proofs.split.double.Goals as goal

pub returns : goal.returns
returns c = sym (double_is_product c.args.a c.ranges.a.fits)
