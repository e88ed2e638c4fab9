use Rattle.scenario_text.proofs.Placing.{Placed}
use Rattle.scenario_text.proofs.write_places.write_places.Given as goal

abbrev pub invariant-runs : goal.invariant-runs
invariant-runs l = Placed l.partition.0 l.initial.number l.number l.count l.run-index l.runs l.initial.text.items l.text.items
