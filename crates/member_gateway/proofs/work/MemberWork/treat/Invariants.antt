use Rattle.member_gateway.specs.Calls.{GoesQuietly}
use Rattle.member_gateway.proofs.work.MemberWork.treat.Given as goal

abbrev pub invariant-parked : goal.invariant-parked
invariant-parked g l = record { goes : GoesQuietly l.initial.self l.self }
