use Rattle.run_alloc.specs.Order.{order_key}
use Rattle.run_alloc.proofs.Ranks.{put_at}
use Rattle.run_alloc.proofs.chunk.put.Goals as goal

pub returns-clause-puts : goal.returns-clause-puts
returns-clause-puts c =
    let place = rw (c.deref.ensures.value, c.rank.ensures) at c.place_of-place.ensures in
    rw c.in-Ok.ensures.items (put_at (order_key c.args.order) c.args.runs.now.items c.args.run _ place)
