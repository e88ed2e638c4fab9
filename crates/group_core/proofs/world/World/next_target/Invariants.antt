use Rattle.std.proofs.Common.{◌≡◌, ◌+◌, ◌-◌}
use Rattle.std.specs.List.{range_with_len}
use Rattle.group_run.specs.Draining.{next_target}
use Rattle.group_core.proofs.world.World.next_target.Given as goal

abbrev pub invariant-targets : goal.invariant-targets
invariant-targets l = record {
  left : next_target l.fn.self l.fn.from (range_with_len l.to (l.fn.self.shape.k + l.fn.self.shape.m - l.to))
      ≡ next_target l.fn.self l.fn.from (range_with_len 0 (l.fn.self.shape.k + l.fn.self.shape.m));
}
