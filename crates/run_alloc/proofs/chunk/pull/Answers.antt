use Rattle.std.proofs.Common.{◌^◌, arith}
use Rattle.run_alloc.specs.Order.{order_key}
use Rattle.run_alloc.proofs.Ranks.{rises-steady, pulled}
use Rattle.run_alloc.proofs.chunk.pull.Goals as goal

pub place_of-place-requires : goal.place_of-place-requires
place_of-place-requires c = rw c.deref.ensures.value (rises-steady (order_key c.args.order) c.args.runs.now.items 0 (2 ^ 64) c.requires.rises)

pub remove-requires : goal.remove-requires
remove-requires c =
    let place = rw (c.deref.ensures.value, c.rank.ensures) at c.place_of-place.ensures in
    omega (arith, (pulled (order_key c.args.order) c.args.runs.now.items c.args.run _ (2 ^ 64) c.requires.rises c.requires.kept place).0)

pub returns-clause-pulls : goal.returns-clause-pulls
returns-clause-pulls c =
    let place = rw (c.deref.ensures.value, c.rank.ensures) at c.place_of-place.ensures in
    rw c.remove.ensures.items (pulled (order_key c.args.order) c.args.runs.now.items c.args.run _ (2 ^ 64) c.requires.rises c.requires.kept place).1
