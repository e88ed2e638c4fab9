use Rattle.std.proofs.Common.{◌≡◌, ◌<◌, ℕ, length, get_or, bit_xor}
use Rattle.field_byte.specs.Field.{inverse}
use Rattle.field_matrix.specs.Grids.{entry}
use Rattle.field_matrix.proofs.square.Square.cauchy.Given as goal

abbrev pub invariant-rows : goal.invariant-rows
invariant-rows g l = record {
  long : length l.inverses ≡ g.row.F;
  row_bytes : (i : ℕ) → i < l.i → get_or l.rows i 0 < 256;
  column_bytes : (i j : ℕ) → i < l.i → get_or l.columns j 0 < 256;
  done : (i j : ℕ) → i < l.i → j < g.row.F → entry l.inverses i j ≡ inverse (bit_xor (get_or l.rows i 0) (get_or l.columns j 0));
}
