use Rattle.group_run.specs.Progress.{load_of}
use Rattle.scenario_play.proofs.Delivering.{Delivered}
use Rattle.scenario_play.proofs.deliveries.deliver_all.Given as goal

abbrev pub invariant-deliveries : goal.invariant-deliveries
invariant-deliveries l = Delivered l.initial.world l.world l.initial.text.items l.text.items l.count

abbrev pub decreases-deliveries : goal.decreases-deliveries
decreases-deliveries l = load_of l.world
