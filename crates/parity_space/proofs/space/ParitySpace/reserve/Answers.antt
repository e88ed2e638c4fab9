use Rattle.page_map.proofs.Spaces.{same_bytes, made_at, ready_at}
use Rattle.parity_space.proofs.space.ParitySpace.reserve.Goals as goal

pub returns-clause-bytes : goal.returns-clause-bytes
returns-clause-bytes c = rw (← c.self.view_is) (same_bytes c.self.inside.pages c.reserve.new.self c.reserve.ensures.dimensions c.reserve.ensures.bytes)

pub returns-clause-ready : goal.returns-clause-ready
returns-clause-ready c =
    rw (← c.self.invariant.2) (ready_at c.self.inside.pages c.reserve.new.self c.args.run c.reserve.result
    c.reserve.ensures.dimensions.block c.reserve.ensures.there)

pub returns-clause-made : goal.returns-clause-made
returns-clause-made c = rw (← c.self.view_is, ← c.self.invariant.2)
    (made_at c.self.inside.pages c.reserve.new.self c.args.run c.reserve.result c.reserve.ensures.pages)
