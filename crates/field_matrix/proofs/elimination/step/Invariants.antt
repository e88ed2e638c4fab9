use Rattle.std.proofs.Common.{◌≡◌, length}
use Rattle.field_matrix.proofs.Rows.{AreAdded}
use Rattle.field_matrix.proofs.elimination.step.Given as goal

abbrev pub invariant-rows : goal.invariant-rows
invariant-rows g l = record {
  long : length l.next ≡ g.row.F;
  added : AreAdded g.row.F l.r l.p l.work l.rows l.divided l.next;
}
