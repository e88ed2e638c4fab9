use Rattle.group_run.specs.Progress.{load_of}
use Rattle.group_layout.specs.Cluster.{world_in}
use Rattle.cluster_play.proofs.Delivering.{Made}
use Rattle.cluster_play.proofs.deliveries.deliver_all.Given as goal

abbrev pub invariant-deliveries : goal.invariant-deliveries
invariant-deliveries l = Made l.initial.cluster l.group l.cluster l.initial.text.items l.text.items l.count

abbrev pub decreases-deliveries : goal.decreases-deliveries
decreases-deliveries l = load_of (world_in l.cluster.groups l.group)
