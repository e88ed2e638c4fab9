use Rattle.std.proofs.Common.{ℕ, ◌≡◌, ◌<◌}
use Rattle.member_gateway.specs.Changing.{AsksGet}
use Rattle.member_gateway.proofs.work.MemberWork.changing.Given as goal

abbrev pub invariant-callers : goal.invariant-callers
invariant-callers l = record { gets : l.changing ≡ 0 → (other : ℕ) → other < l.caller → AsksGet l.self other }
