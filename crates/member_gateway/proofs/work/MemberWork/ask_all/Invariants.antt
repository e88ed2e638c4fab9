use Rattle.member_gateway.specs.Calls.{GoesQuietly}
use Rattle.member_gateway.proofs.work.MemberWork.ask_all.Given as goal

abbrev pub invariant-asks : goal.invariant-asks
invariant-asks g l = record { goes : GoesQuietly l.initial.self l.self }
