use Rattle.std.proofs.Common.{ℕ, ◌<◌}
use Rattle.field_matrix.specs.Grids.{entry}
use Rattle.group_types.specs.Pieces.{contents_of}
use Rattle.cauchy_code.proofs.column.are_bytes.Given as goal

abbrev pub invariant-pieces : goal.invariant-pieces
invariant-pieces l = (j : ℕ) → j < l.piece-index → (at : ℕ) → entry (contents_of l.pieces) j at < 256
