use Rattle.group_run.specs.Progress.{load_of}
use Rattle.scenario_run.proofs.Leading.{IsLedTo}
use Rattle.world_caller.specs.Making.{AreDelivered}
use Rattle.world_caller.proofs.drain.drain.Given as goal

abbrev pub invariant-deliveries : goal.invariant-deliveries
invariant-deliveries l = record {
  led : IsLedTo l.world.shape l.world;
  delivered : AreDelivered l.initial.world l.world;
}

abbrev pub decreases-deliveries : goal.decreases-deliveries
decreases-deliveries l = load_of l.world
