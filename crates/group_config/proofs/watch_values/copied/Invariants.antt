use Rattle.std.proofs.Common.{◌≡◌, ◌++◌, length}
use Rattle.toml.specs.View.{items_view}
use Rattle.group_config.specs.Watching.{member_addresses}
use Rattle.group_config.proofs.watch_values.copied.Given as goal

abbrev pub invariant-left : goal.invariant-left
invariant-left l = l.list ++ member_addresses (items_view l.left) ≡ member_addresses (items_view l.fn.items)

abbrev pub decreases-left : goal.decreases-left
decreases-left l = length l.left
