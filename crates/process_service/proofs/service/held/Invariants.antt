use Rattle.std.proofs.Common.{◌≡◌, [], map, replicate}
use Rattle.process_service.proofs.service.held.Given as goal

abbrev pub invariant-partitions : goal.invariant-partitions
invariant-partitions l = map (λ h. h.items) l.held.items ≡ replicate l.counter []
