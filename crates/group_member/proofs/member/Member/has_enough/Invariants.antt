use Rattle.std.proofs.Common.{◌≡◌, ◌≤◌}
use Rattle.group_member.proofs.Counting.{known_below}
use Rattle.group_member.proofs.member.Member.has_enough.Given as goal

abbrev pub invariant-all : goal.invariant-all
invariant-all l = record { count : l.many ≡ known_below l.self.words l.self.signs l.ping l.x; low : l.many ≤ l.x }
