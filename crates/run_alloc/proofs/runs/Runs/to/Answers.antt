use Rattle.std.proofs.Common.{arith}
use Rattle.run_alloc.proofs.Pairs.{last_kept, last_inside, none_ends}
use Rattle.run_alloc.proofs.runs.Runs.to.Goals as goal

pub overflow_add-last : goal.overflow_add-last
overflow_add-last c = omega (arith, last_inside c.args.self.now.runs c.args.at _ c.in_ok-last.last c.in_ok-last.ensures.last c.in_ok-last.ensures.spread)

pub returns-then-last-at : goal.returns-then-last-at
returns-then-last-at c = (last_kept c.args.self.now.runs c.args.at _ c.in_ok-last.last c.in_ok-last.ensures.last c.in_ok-last.ensures.spread, c.if-last-at.true)

pub returns-else-last-at : goal.returns-else-last-at
returns-else-last-at c = none_ends c.args.self.now.runs c.args.at _ c.in_ok-last.last c.in_ok-last.ensures.last c.in_ok-last.ensures.spread c.if-last-at.false
