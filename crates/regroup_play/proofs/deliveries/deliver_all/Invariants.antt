use Rattle.group_run.specs.Progress.{load_of}
use Rattle.regroup_play.proofs.Delivering.{Made}
use Rattle.regroup_play.proofs.deliveries.deliver_all.Given as goal

abbrev pub invariant-deliveries : goal.invariant-deliveries
invariant-deliveries l = Made l.initial.regroup l.regroup l.count

abbrev pub decreases-deliveries : goal.decreases-deliveries
decreases-deliveries l = load_of l.regroup.world
