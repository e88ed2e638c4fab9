use Rattle.std.proofs.Common.{◌≡◌, length}
use Rattle.group_config.specs.MemberTable.{names_differ}
use Rattle.group_config.proofs.names.names_differ.Given as goal

abbrev pub invariant-left : goal.invariant-left
invariant-left l = names_differ l.left ≡ names_differ l.fn.entries

abbrev pub decreases-left : goal.decreases-left
decreases-left l = length l.left
