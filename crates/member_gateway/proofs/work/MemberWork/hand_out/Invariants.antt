use Rattle.member_gateway.specs.Calls.{GoesQuietly}
use Rattle.member_gateway.proofs.work.MemberWork.hand_out.Given as goal

abbrev pub invariant-messages : goal.invariant-messages
invariant-messages g l = record { goes : GoesQuietly l.initial.self l.self }
