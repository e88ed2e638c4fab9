use Rattle.run_alloc.proofs.Pairs.{shortest_of}
use Rattle.run_alloc.proofs.runs.Runs.shortest.Goals as goal

pub returns : goal.returns
returns c =
    let first = rw c.from.ensures at c.first_from.ensures.first in
    rw (← c.self.view_is) (shortest_of c.self.inside.by_address c.self.inside.by_length c.self.inside.spare
    c.self.invariant c.args.len c.first_from.result first c.first_from.ensures.rises)
