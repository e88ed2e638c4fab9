use Rattle.member_gateway.specs.Calls.{GoesQuietly}
use Rattle.member_gateway.proofs.work.MemberWork.read.Given as goal

abbrev pub invariant-frames : goal.invariant-frames
invariant-frames g l = record { goes : GoesQuietly l.initial.self l.self }
