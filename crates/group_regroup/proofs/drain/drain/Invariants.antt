use Rattle.group_run.specs.Progress.{load_of}
use Rattle.group_regroup.proofs.Draining.{Delivering}
use Rattle.group_regroup.proofs.drain.drain.Given as goal

abbrev pub invariant-deliveries : goal.invariant-deliveries
invariant-deliveries l = Delivering l.initial.world l.world

abbrev pub decreases-deliveries : goal.decreases-deliveries
decreases-deliveries l = load_of l.world
