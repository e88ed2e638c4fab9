use Rattle.std.proofs.Common.{◌≡◌, [], map, replicate}
use Rattle.group_ledger.proofs.places.no_places.Given as goal

abbrev pub invariant-partitions : goal.invariant-partitions
invariant-partitions l = map (λ p. p.items) l.places.items ≡ replicate l.counter []
