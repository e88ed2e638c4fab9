use Rattle.std.proofs.Common.{◌≡◌}
use Rattle.member_gateway.proofs.sets.members_of.Given as goal

abbrev pub invariant-names : goal.invariant-names
invariant-names l = record { shape : l.members.shape ≡ l.shape }
