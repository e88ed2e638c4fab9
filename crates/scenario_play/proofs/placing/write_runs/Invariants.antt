use Rattle.std.proofs.Common.{[]}
use Rattle.scenario_run.proofs.Placing.{ArePlaced}
use Rattle.scenario_play.proofs.placing.write_runs.Given as goal

abbrev pub invariant-partitions : goal.invariant-partitions
invariant-partitions l = ArePlaced [] l.world l.d l.text.items l.count
