use Rattle.std.proofs.Common.{◌≡◌}
use Rattle.member_gateway.proofs.work.MemberWork.confirm.Given as goal

abbrev pub invariant-others : goal.invariant-others
invariant-others l = record { same : l.self ≡ l.initial.self }
