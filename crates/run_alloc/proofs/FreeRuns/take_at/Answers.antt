use Rattle.std.proofs.Common.{arith}
use Rattle.run_alloc.proofs.Best.{last_holds, none_to, cut_in_set, all_free_in_runs}
use Rattle.run_alloc.proofs.Pairs.{last_kept}
use Rattle.run_alloc.proofs.FreeRuns.take_at.Goals as goal

pub carve-requires-clause-kept : goal.carve-requires-clause-kept
carve-requires-clause-kept c = last_kept c.self.inside.kept.runs c.args.at _ c.in-Some.run' c.in-Some.ensures.last c.in-Some.ensures.spread

pub carve-requires-clause-ends : goal.carve-requires-clause-ends
carve-requires-clause-ends c =
    let free = all_free_in_runs c.self.inside.kept.runs _ _ (rw (← c.self.view_is) at c.requires.free) in
    last_holds c.self.inside.kept.runs c.self.inside.size c.self.invariant c.args.at c.args.len c.in-Some.run' c.if-len-gt0.true free c.in-Some.ensures.last

pub unreachable-requires : goal.unreachable-requires
unreachable-requires c =
    let free = all_free_in_runs c.self.inside.kept.runs _ _ (rw (← c.self.view_is) at c.requires.free) in
    none_to c.self.inside.kept.runs c.args.at (free c.args.at (omega arith) (omega (arith, c.if-len-gt0.true))) c.in-None.ensures.last

pub returns-in-Some-clause-taken : goal.returns-in-Some-clause-taken
returns-in-Some-clause-taken c a = rw (← c.self.view_is) (cut_in_set c.self.inside.kept.runs c.carve.new.kept.runs c.args.at c.args.len c.carve.ensures.cut a)
