use Rattle.group_stage.specs.Seated.{IsOf}
use Rattle.group_tests.proofs.stage.counting.ask_often.Given as goal

abbrev pub invariant-calls : goal.invariant-calls
invariant-calls l = IsOf l.fn.stage l.seat
