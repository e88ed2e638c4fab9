use Rattle.std.proofs.Common.{◌-◌}
use Rattle.world_caller.specs.Calling.{HasMovedGroup, most_events}
use Rattle.world_caller.specs.Laws.{CanGoOnFrom}
use Rattle.world_caller.specs.declared.stage.Next.TheVariants.{Goes}
use Rattle.world_caller.proofs.calling.make_call.Given as goal

abbrev pub invariant-stages : goal.invariant-stages
invariant-stages l = record {
  come : HasMovedGroup l.caller l.op l.initial.world l.world (Goes l.stage);
  stands : CanGoOnFrom l.caller l.world l.stage;
}

abbrev pub decreases-stages : goal.decreases-stages
decreases-stages l = most_events - l.world.events
