use Rattle.std.proofs.Common.{◌≡◌, ◌+◌, ◌++◌}
use Rattle.group_regroup.specs.Items.{live_items, value_bytes}
use Rattle.group_regroup.proofs.loading.load.Given as goal

abbrev pub invariant-heads : goal.invariant-heads
invariant-heads l = record {
  put : l.items.items ++ live_items l.fn.partition l.head-iterator.rest.items ≡ l.fn.items.items ++ live_items l.fn.partition l.fn.heads.items;
  left : value_bytes (live_items l.fn.partition l.fn.heads.items) + l.left ≡ l.fn.space + value_bytes (live_items l.fn.partition l.head-iterator.rest.items);
}
