use Rattle.std.proofs.Common.{◌-◌}
use Rattle.group_stage.specs.Kept.{most_calls}
use Rattle.group_stage.specs.Seated.{IsOf}
use Rattle.stage_caller.specs.Calling.{MadeNoEvent}
use Rattle.stage_caller.proofs.failing.fail_process.Given as goal

abbrev pub invariant-tries : goal.invariant-tries
invariant-tries l = record {
  of : IsOf l.stage l.seat;
  idle : MadeNoEvent l.initial.seat l.seat;
}

abbrev pub decreases-tries : goal.decreases-tries
decreases-tries l = most_calls - l.seat.calls
