use Rattle.std.proofs.Common.{refl}
use Rattle.lane_kernel.proofs.Lookups.{low_ok, high_ok, sixteen_products_twice, products_looked_up}
use Rattle.lane_kernel.proofs.lanes.product_32.Goals as goal

pub swizzle-lows : goal.swizzle-lows
swizzle-lows c = low_ok 2 32 c.args.from refl c.fits-from.0

pub swizzle-highs : goal.swizzle-highs
swizzle-highs c = high_ok 2 32 c.args.from refl c.fits-from.0 c.fits-from.1

pub returns : goal.returns
returns c =
    let lows = sixteen_products_twice _ 1 _ _ c.low.ensures.products in
    let highs = sixteen_products_twice _ 16 _ _ c.high.ensures in
    products_looked_up 32 c.args.split.now c.args.from _ _ c.low.ensures.byte c.fits-from.0 c.fits-from.1 lows highs
