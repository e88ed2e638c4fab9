use Rattle.std.proofs.Common.{arith}
use Rattle.run_alloc.proofs.Best.{run_free_to, end_taken, behind_taken, not_free, free_set_reads, all_free_in_set}
use Rattle.run_alloc.proofs.Pairs.{last_inside}
use Rattle.run_alloc.proofs.FreeRuns.free_to.Goals as goal

pub returns-in_default-clause-ends : goal.returns-in_default-clause-ends
returns-in_default-clause-ends c =
    rw (← c.self.view_is)
    (free_set_reads c.self.inside.kept.runs c.args.at
    (not_free c.self.inside.kept.runs c.args.at c.in_default.ensures.last))

pub overflow_add-end : goal.overflow_add-end
overflow_add-end c = omega (arith, last_inside c.self.inside.kept.runs c.args.at _ c.in-Some.run' c.in-Some.ensures.last c.in-Some.ensures.spread)

pub returns-then-at-end-clause-free : goal.returns-then-at-end-clause-free
returns-then-at-end-clause-free c = rw (← c.self.view_is) (all_free_in_set c.self.inside.kept.runs c.args.at _
    (run_free_to c.self.inside.kept.runs c.self.inside.size c.self.invariant c.args.at c.in-Some.run' c.in-Some.ensures.last _ (omega arith)))

pub returns-then-at-end-clause-ends : goal.returns-then-at-end-clause-ends
returns-then-at-end-clause-ends c = rw (← c.self.view_is) (free_set_reads c.self.inside.kept.runs _
    (end_taken c.self.inside.kept.runs c.self.inside.size c.self.invariant c.args.at c.in-Some.run' c.in-Some.ensures.last))

pub returns-else-at-end-clause-ends : goal.returns-else-at-end-clause-ends
returns-else-at-end-clause-ends c = rw (← c.self.view_is) (free_set_reads c.self.inside.kept.runs _
    (behind_taken c.self.inside.kept.runs c.self.inside.size c.self.invariant c.args.at c.in-Some.run'
    c.in-Some.ensures.last (omega (arith, c.if-at-end.false))))
