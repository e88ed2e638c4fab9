use Rattle.std.proofs.Common.{◌≡◌, ◌-◌}
use Rattle.std.specs.List.{range_with_len}
use Rattle.group_run.specs.Asking.{oldest_inherited}
use Rattle.group_run.specs.Process.{Process}
use Rattle.head_service.specs.Serving.{serving}
use Rattle.process_service.proofs.service.Service.oldest_inherited.Given as goal

abbrev pub invariant-partitions : goal.invariant-partitions
invariant-partitions l = record {
  ahead : (b : Process) → oldest_inherited (serving l.fn.self b) (range_with_len 0 l.fn.self.shape.k)
      ≡ oldest_inherited (serving l.fn.self b) (range_with_len l.d (l.fn.self.shape.k - l.d));
}
