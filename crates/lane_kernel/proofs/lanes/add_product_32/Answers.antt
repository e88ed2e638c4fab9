use Rattle.std.proofs.Common.{bit_xor, ap}
use Rattle.std.specs.Simd.Lanes.{zip2}
use Rattle.field_byte.specs.Vectors.{add_bytes}
use Rattle.lane_kernel.proofs.lanes.add_product_32.Goals as goal

pub returns : goal.returns
unfolding add_bytes
returns c = ap (zip2 bit_xor c.args.to) c.product_32.ensures
