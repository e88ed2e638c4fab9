use Rattle.std.proofs.Common.{◌∙◌, arith}
use Rattle.run_alloc.specs.Order.{order_key}
use Rattle.run_alloc.proofs.Laid.{even-few, shelf_rises}
use Rattle.run_alloc.proofs.shelf.Shelf.insert.Goals as goal

pub settle-requires-clause-stocked : goal.settle-requires-clause-stocked
settle-requires-clause-stocked c = omega (arith, even-few c.self.inside.chunks.items c.self.invariant.even, c.self.invariant.room)

pub returns-clause-rises : goal.returns-clause-rises
returns-clause-rises c = shelf_rises (order_key c.self.inside.order) c.settle.new.chunks.items c.settle.ensures.laid
    (c.settle.ensures.starts ∙ c.put_in-place.ensures.starts)
