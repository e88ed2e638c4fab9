use Rattle.std.proofs.Common.{ℕ, ◌<◌, ◌≤◌, slice_index}
use Rattle.std.specs.List.{Contains}
use Rattle.vector_stamp.proofs.Stamp.least.Given as goal

abbrev pub invariant-numbers : goal.invariant-numbers
invariant-numbers l = record {
  among : Contains l.self l.least;
  least : (q : ℕ) → q < l.number-index → l.least ≤ slice_index l.self q;
}
