use Rattle.std.proofs.Common.{◌≡◌, ◌-◌}
use Rattle.std.specs.List.{range_with_len}
use Rattle.group_run.specs.Asking.{collect_from}
use Rattle.group_run.specs.Process.{Process}
use Rattle.head_service.specs.Serving.{serving}
use Rattle.process_service.proofs.service.Service.collect.Given as goal

abbrev pub invariant-partitions : goal.invariant-partitions
invariant-partitions l = record {
  same : l.self-inside ≡ l.initial.self-inside;
  caller : l.caller ≡ l.fn.caller;
  call : l.call ≡ l.fn.call;
  ahead : (b : Process) → collect_from l.fn.caller l.fn.call (serving l.fn.self b) (range_with_len 0 l.fn.self.shape.k)
      ≡ collect_from l.fn.caller l.fn.call (serving l.fn.self b) (range_with_len l.d (l.fn.self.shape.k - l.d));
}
