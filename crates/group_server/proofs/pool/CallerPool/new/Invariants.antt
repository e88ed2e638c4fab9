use Rattle.std.proofs.Common.{length}
use Rattle.group_stage.specs.Seated.{AreSeatsOf}
use Rattle.group_server.proofs.pool.CallerPool.new.Given as goal

abbrev pub invariant-seats : goal.invariant-seats
invariant-seats g l = AreSeatsOf l.stage l.rest.seats

abbrev pub decreases-seats : goal.decreases-seats
decreases-seats g l = length l.rest.seats
