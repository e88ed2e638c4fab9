use Rattle.std.proofs.Common.{◌≡◌, None, replicate}
use Rattle.process_service.proofs.service.no_heads.Given as goal

abbrev pub invariant-partitions : goal.invariant-partitions
invariant-partitions l = l.heads.items ≡ replicate l.counter None
