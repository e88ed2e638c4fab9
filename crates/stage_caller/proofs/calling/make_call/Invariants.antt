use Rattle.std.proofs.Common.{◌≡◌, ◌-◌}
use Rattle.group_stage.specs.Kept.{most_calls}
use Rattle.group_stage.specs.Seated.{IsOf}
use Rattle.stage_caller.specs.Calling.{HasMovedSeat}
use Rattle.stage_caller.specs.declared.phase.Next.TheVariants.{Goes}
use Rattle.stage_caller.proofs.calling.make_call.Given as goal

abbrev pub invariant-moves : goal.invariant-moves
invariant-moves l = record {
  of : IsOf l.stage l.seat;
  come : HasMovedSeat l.initial.seat l.op l.fn.start l.seat (Goes l.phase);
  shape : l.progress.route.shape ≡ l.stage.plan.shape;
}

abbrev pub decreases-moves : goal.decreases-moves
decreases-moves l = most_calls - l.seat.calls
