use Rattle.std.proofs.Common.{◌≡◌, ◌<◌, ℕ, length, get_or, bit_xor}
use Rattle.field_byte.specs.Field.{inverse}
use Rattle.field_matrix.proofs.square.cauchy_row.Given as goal

abbrev pub invariant-columns : goal.invariant-columns
invariant-columns g l = record {
  long : length l.row ≡ g.row.F;
  done : (j : ℕ) → j < l.j → get_or l.row j 0 ≡ inverse (bit_xor l.x (get_or l.columns j 0));
}
