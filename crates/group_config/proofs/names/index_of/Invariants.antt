use Rattle.std.proofs.Common.{◌≡◌, ◌+◌, length}
use Rattle.group_config.specs.MemberTable.{member_index}
use Rattle.group_config.proofs.Naming.{from}
use Rattle.group_config.proofs.names.index_of.Given as goal

abbrev pub invariant-left : goal.invariant-left
invariant-left l = record {
  found : from l.at (member_index l.fn.name l.left) ≡ member_index l.fn.name l.fn.entries;
  range : l.at + length l.left ≡ length l.fn.entries;
}

abbrev pub decreases-left : goal.decreases-left
decreases-left l = length l.left
