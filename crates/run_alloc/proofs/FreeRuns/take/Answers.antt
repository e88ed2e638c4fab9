use Rattle.std.proofs.Common.{arith}
use Rattle.run_alloc.proofs.Best.{place_in_set, no_place_in_set, cut_in_set, tidy}
use Rattle.run_alloc.proofs.FreeRuns.take.Goals as goal

pub returns-in_default-clause-place : goal.returns-in_default-clause-place
returns-in_default-clause-place c =
    rw (← c.self.view_is) (no_place_in_set c.self.inside.kept.runs c.self.inside.size c.args.len c.self.invariant
    c.in_default.ensures)

pub carve-requires-clause-spread : goal.carve-requires-clause-spread
carve-requires-clause-spread c = tidy _ _ (omega arith) c.self.invariant

pub returns-clause-place : goal.returns-clause-place
returns-clause-place c =
    rw (← c.self.view_is) (place_in_set c.self.inside.kept.runs c.self.inside.size c.args.len c.in-Some.run'
    c.self.invariant c.in-Some.ensures)

pub returns-clause-taken : goal.returns-clause-taken
returns-clause-taken c a = rw (← c.self.view_is) (cut_in_set c.self.inside.kept.runs c.carve.new.kept.runs c.in-Some.run'.at c.args.len c.carve.ensures.cut a)
