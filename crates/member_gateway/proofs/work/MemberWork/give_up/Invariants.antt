use Rattle.member_gateway.specs.Calls.{GoesQuietly}
use Rattle.member_gateway.proofs.work.MemberWork.give_up.Given as goal

abbrev pub invariant-callers : goal.invariant-callers
invariant-callers l = record { goes : GoesQuietly l.initial.self l.self }
