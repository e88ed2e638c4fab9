use Rattle.std.proofs.Common.{refl, arith}
use Rattle.run_alloc.specs.Order.{order_key}
use Rattle.run_alloc.proofs.Splits.{halved}
use Rattle.run_alloc.proofs.chunk.halve.Goals as goal

pub returns : goal.returns
returns c =
    let upper = rw (c.requires.blank.blank, c.deref.ensures.value) at c.in-Ok.ensures.items in
    halved (order_key c.args.order) c.args.chunk.now _ _ c.index.result.now c.requires.full c.truncate.ensures.items upper refl c.rank-low.ensures
    c.index.ensures
    (omega (arith, c.requires.room, c.truncate.ensures.capacity)) (omega (arith, c.requires.blank.room, c.in-Ok.ensures.capacity))
