use Rattle.std.proofs.Common.{◌≡◌, ◌++◌}
use Rattle.group_core.specs.Items.{heads_of}
use Rattle.group_core.proofs.items.without_values.Given as goal

abbrev pub invariant-items : goal.invariant-items
invariant-items l = l.list.items ++ heads_of l.key-iterator.rest.items ≡ heads_of l.fn.items.items
