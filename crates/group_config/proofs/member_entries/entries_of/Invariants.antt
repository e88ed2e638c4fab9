use Rattle.std.proofs.Common.{◌≡◌, length}
use Rattle.toml.specs.View.{items_view}
use Rattle.group_config.specs.MemberTable.{entries_of}
use Rattle.group_config.proofs.Naming.{behind}
use Rattle.group_config.proofs.member_entries.entries_of.Given as goal

abbrev pub invariant-left : goal.invariant-left
invariant-left l = behind l.members (entries_of (items_view l.left)) ≡ entries_of (items_view l.fn.items)

abbrev pub decreases-left : goal.decreases-left
decreases-left l = length l.left
