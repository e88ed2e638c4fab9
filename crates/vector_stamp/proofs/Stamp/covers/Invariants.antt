use Rattle.std.proofs.Common.{ℕ, ◌<◌, ◌≤◌, slice_index}
use Rattle.vector_stamp.proofs.Stamp.covers.Given as goal

abbrev pub invariant-partitions : goal.invariant-partitions
invariant-partitions l = (q : ℕ) → q < l.p → slice_index l.other q ≤ slice_index l.self q
