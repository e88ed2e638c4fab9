use Rattle.std.proofs.Common.{ℕ, ◌≡◌, ◌≤◌, ◌<◌, ◌+◌, None, length, vec_len, vec_capacity}
use Rattle.std.specs.List.{range_with_len}
use Rattle.group_types.specs.Lists.{at}
use Rattle.group_run.specs.Applying.{for_each}
use Rattle.group_run.specs.Receiving.{take_over_if}
use Rattle.head_service.specs.Serving.{serving}
use Rattle.process_service.specs.Noticing.{successor_at, waiting}
use Rattle.process_service.specs.Standing.{StaysOver}
use Rattle.process_service.proofs.Each.{IsLeft}
use Rattle.process_service.proofs.service.Service.take_over_all.Given as goal

abbrev pub invariant-partitions : goal.invariant-partitions
invariant-partitions g l = record {
  stays : StaysOver l.initial.self l.self (g.B.Beneath.storage l.initial.below) (g.B.Beneath.storage l.below);
  room : vec_len l.settled + waiting l.self.replicas ≤ vec_capacity l.settled;
  long : length l.heads.items ≡ l.initial.self.shape.k;
  heads : (e : ℕ) → l.d ≤ e → e < l.initial.self.shape.k → at None l.heads.items e ≡ successor_at l.self e;
  ahead : IsLeft (take_over_if l.initial.self.shape) l.initial.self.shape.k l.d (serving l.self (g.B.Beneath.storage l.below).process) l.settled.items
      (for_each (range_with_len 0 l.initial.self.shape.k) (take_over_if l.initial.self.shape)
      (serving l.initial.self (g.B.Beneath.storage l.initial.below).process)) l.initial.settled.items;
}
