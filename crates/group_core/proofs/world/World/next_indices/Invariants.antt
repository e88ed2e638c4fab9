use Rattle.std.proofs.Common.{◌≡◌, ◌+◌, ◌-◌}
use Rattle.std.specs.List.{range_with_len}
use Rattle.group_run.specs.Draining.{next_among, next_delivery}
use Rattle.group_core.proofs.world.World.next_indices.Given as goal

abbrev pub invariant-senders : goal.invariant-senders
invariant-senders l = record {
  left : next_among l.fn.self (range_with_len l.from (l.fn.self.shape.k + l.fn.self.shape.m - l.from)) ≡ next_delivery l.fn.self;
}
