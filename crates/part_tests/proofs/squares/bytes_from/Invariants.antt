use Rattle.std.proofs.Common.{◌≡◌, ◌<◌, ◌+◌, ℕ, length, get_or}
use Rattle.part_tests.proofs.squares.bytes_from.Given as goal

abbrev pub invariant-bytes : goal.invariant-bytes
invariant-bytes g l = record {
  long : length l.bytes ≡ g.row.F;
  done : (k : ℕ) → k < l.k → get_or l.bytes k 0 ≡ l.first + k;
}
