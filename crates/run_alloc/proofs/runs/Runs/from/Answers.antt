use Rattle.run_alloc.proofs.Pairs.{last_kept, none_begins}
use Rattle.run_alloc.proofs.runs.Runs.from.Goals as goal

pub returns-then-last-at : goal.returns-then-last-at
returns-then-last-at c = (last_kept c.args.self.now.runs c.args.at _ c.in_ok-last.last c.in_ok-last.ensures.last c.in_ok-last.ensures.spread, c.if-last-at.true)

pub returns-else-last-at : goal.returns-else-last-at
returns-else-last-at c = none_begins c.args.self.now.runs c.args.at _ c.in_ok-last.last c.in_ok-last.ensures.last c.in_ok-last.ensures.spread c.if-last-at.false
