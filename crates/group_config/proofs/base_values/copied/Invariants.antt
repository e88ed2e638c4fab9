use Rattle.std.proofs.Common.{◌≡◌, ◌++◌, length}
use Rattle.toml.specs.View.{items_view}
use Rattle.group_config.specs.Bases.{numbers}
use Rattle.group_config.proofs.base_values.copied.Given as goal

abbrev pub invariant-left : goal.invariant-left
invariant-left l = l.list ++ numbers (items_view l.left) ≡ numbers (items_view l.fn.items)

abbrev pub decreases-left : goal.decreases-left
decreases-left l = length l.left
