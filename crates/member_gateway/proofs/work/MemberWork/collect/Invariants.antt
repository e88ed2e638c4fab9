use Rattle.member_gateway.specs.Calls.{GoesQuietly}
use Rattle.member_gateway.proofs.work.MemberWork.collect.Given as goal

abbrev pub invariant-dues : goal.invariant-dues
invariant-dues g l = record { goes : GoesQuietly l.initial.self l.self }
