use Rattle.scenario_run.proofs.Placing.{ArePlaced}
use Rattle.regroup_play.proofs.placing.write_runs.Given as goal

abbrev pub invariant-partitions : goal.invariant-partitions
invariant-partitions l = ArePlaced l.regroup.bases l.regroup.world l.d l.text.items l.count
