use Rattle.run_alloc.specs.Order.{order_key}
use Rattle.run_alloc.proofs.Laid.{shelf_rises}
use Rattle.run_alloc.proofs.shelf.Shelf.first_from.Goals as goal

pub returns-clause-rises : goal.returns-clause-rises
returns-clause-rises c =
    rw (← c.self.view_is) (shelf_rises (order_key c.self.inside.order) c.self.inside.chunks.items c.self.invariant.laid
    c.self.invariant.starts)
