use Rattle.member_gateway.specs.Calls.{GoesQuietly}
use Rattle.member_gateway.proofs.work.MemberWork.hear.Given as goal

abbrev pub invariant-names : goal.invariant-names
invariant-names g l = record { goes : GoesQuietly l.initial.self l.self }
