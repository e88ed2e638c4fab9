use Rattle.std.proofs.Common.{◌≡◌, ◌<◌, ◌≤◌, ℕ}
use Rattle.field_matrix.specs.Grids.{entry}
use Rattle.field_matrix.proofs.Steps.{work_after, out_after}
use Rattle.field_matrix.proofs.square.Square.invert.Given as goal

abbrev pub invariant-steps : goal.invariant-steps
invariant-steps g l = record {
  within : l.p ≤ g.row.F;
  work : (i j : ℕ) → i < g.row.F → j < g.row.F → entry l.work i j ≡ work_after l.p (entry l.self) i j;
  out : (i j : ℕ) → i < g.row.F → j < g.row.F → entry l.out i j ≡ out_after l.p (entry l.self) i j;
}
