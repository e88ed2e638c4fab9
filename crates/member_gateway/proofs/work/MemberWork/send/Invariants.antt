use Rattle.member_gateway.specs.Calls.{GoesQuietly}
use Rattle.member_gateway.proofs.work.MemberWork.send.Given as goal

abbrev pub invariant-links : goal.invariant-links
invariant-links g l = record { goes : GoesQuietly l.initial.self l.self }
