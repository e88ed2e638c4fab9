use Rattle.std.proofs.Common.{◌≡◌}
use Rattle.member_gateway.proofs.work.MemberWork.wake.Given as goal

abbrev pub invariant-answers : goal.invariant-answers
invariant-answers l = record { same : l.self ≡ l.initial.self }
