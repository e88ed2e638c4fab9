use Rattle.std.proofs.Common.{◌≡◌, ◌≤◌, ◌-◌, ◌^◌, length, drop, min}
use Rattle.process_service.specs.Noticing.{waiting}
use Rattle.process_service.proofs.service.Service.waiting.Given as goal

abbrev pub invariant-partitions : goal.invariant-partitions
invariant-partitions l = record {
  within : l.d ≤ length l.fn.self.replicas;
  all : l.all ≡ min (waiting (drop l.d l.fn.self.replicas)) (2 ^ 64 - 1);
}

abbrev pub decreases-partitions : goal.decreases-partitions
decreases-partitions l = l.d
