use Rattle.std.proofs.Common.{◌≡◌, map, replicate}
use Rattle.process_service.proofs.service.ranks.Given as goal

abbrev pub invariant-partitions : goal.invariant-partitions
invariant-partitions l = map (λ r. r.0) l.ranks.items ≡ replicate l.counter 0
