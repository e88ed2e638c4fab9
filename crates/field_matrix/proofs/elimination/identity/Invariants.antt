use Rattle.std.proofs.Common.{◌≡◌, ◌<◌, ℕ, length}
use Rattle.field_matrix.specs.Grids.{entry, unit}
use Rattle.field_matrix.proofs.elimination.identity.Given as goal

abbrev pub invariant-rows : goal.invariant-rows
invariant-rows g l = record {
  long : length l.rows ≡ g.row.F;
  done : (i j : ℕ) → i < l.i → j < g.row.F → entry l.rows i j ≡ unit i j;
}
