use Rattle.std.proofs.Common.{arith}
use Rattle.run_alloc.proofs.Best.{none_clear, joined_in_set, none_free_in_runs, tidy}
use Rattle.run_alloc.proofs.FreeRuns.give.Goals as goal

pub join-requires-clause-spread : goal.join-requires-clause-spread
join-requires-clause-spread c = tidy _ _ (omega arith) c.self.invariant

pub join-requires-clause-clear : goal.join-requires-clause-clear
join-requires-clause-clear c = none_clear c.self.inside.kept.runs _ c.args.at c.args.len c.if-len-gt0.true
    c.self.invariant (none_free_in_runs _ _ _ (rw (← c.self.view_is) at c.requires.taken))

pub returns-then-len-gt0-clause-given : goal.returns-then-len-gt0-clause-given
returns-then-len-gt0-clause-given c a =
    rw (← c.self.view_is) (joined_in_set c.self.inside.kept.runs c.join.new.kept.runs c.args.at c.args.len
    c.join.ensures.joined a)
