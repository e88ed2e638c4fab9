use Rattle.member_gateway.specs.Calls.{GoesQuietly}
use Rattle.member_gateway.proofs.work.MemberWork.ask_resting.Given as goal

abbrev pub invariant-resting : goal.invariant-resting
invariant-resting g l = record { goes : GoesQuietly l.initial.self l.self }
