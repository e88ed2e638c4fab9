use Rattle.std.proofs.Common.{arith}
use Rattle.partition_replica.proofs.Covered.{part_back, part_free, part_none}
use Rattle.partition_replica.proofs.Keys.{items_in-sorted}
use Rattle.partition_replica.proofs.replica.Replica.free_from.Goals as goal

pub returns-then-free-gt0-clause-free : goal.returns-then-free-gt0-clause-free
returns-then-free-gt0-clause-free c =
    rw (← c.self.view_is)
    (part_free c.self.invariant (items_in-sorted c.self.inside.index) c.args.drops c.args.stable c.args.at c.free_to.result c.free_to.ensures.free)

pub returns-else-free-gt0-clause-free : goal.returns-else-free-gt0-clause-free
returns-else-free-gt0-clause-free c =
    rw (← c.self.view_is)
    (part_back c.self.invariant (items_in-sorted c.self.inside.index) c.returned_from.ensures.numbered
    c.args.drops c.args.stable c.args.at c.free_to.result c.returned_from.result
    c.free_to.ensures.reaches c.returned_from.ensures.held)

pub returns-else-free-gt0-clause-none : goal.returns-else-free-gt0-clause-none
returns-else-free-gt0-clause-none c =
    rw (← c.self.view_is)
    (part_none c.self.invariant (items_in-sorted c.self.inside.index) c.returned_from.ensures.numbered
    c.args.drops c.args.stable c.args.at c.free_to.result c.returned_from.result
    c.free_to.ensures.reaches c.free_to.ensures.ends (omega arith) c.returned_from.ensures.none)
