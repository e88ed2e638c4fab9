use Rattle.std.proofs.Common.{◌≡◌, ◌<◌, ℕ, length, get_or}
use Rattle.field_matrix.specs.Grids.{entry}
use Rattle.cauchy_code.proofs.decoding.row_of.Given as goal

abbrev pub invariant-columns : goal.invariant-columns
invariant-columns g l = record {
  long : length l.all ≡ g.row.F;
  done : (a : ℕ) → a < l.a → get_or l.all a 0 ≡ entry l.square l.row a;
}
