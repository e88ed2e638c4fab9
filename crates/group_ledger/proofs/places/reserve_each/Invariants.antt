use Rattle.std.proofs.Common.{ℕ, ◌≡◌, ◌≤◌, ◌<◌, ◌+◌, length, map, vec_len, vec_capacity, get_or}
use Rattle.group_ledger.proofs.places.reserve_each.Given as goal

abbrev pub invariant-partitions : goal.invariant-partitions
invariant-partitions l = record {
  items : map (λ p. p.items) l.places ≡ map (λ p. p.items) l.initial.places;
  many : length l.places ≡ length l.initial.places;
  room : (k : ℕ) (p : _) → k < l.d → vec_len (get_or l.places k p) + l.room ≤ vec_capacity (get_or l.places k p);
}
