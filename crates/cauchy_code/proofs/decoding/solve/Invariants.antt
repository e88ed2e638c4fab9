use Rattle.std.proofs.Common.{◌-◌, ◌++◌}
use Rattle.field_matrix.specs.Grids.{entry}
use Rattle.group_types.specs.Pieces.{length_of}
use Rattle.cauchy_code.proofs.Progress.{AreWritten}
use Rattle.cauchy_code.proofs.decoding.solve.Given as goal

abbrev pub invariant-columns : goal.invariant-columns
invariant-columns g l = AreWritten l.m (length_of (l.rows ++ l.known ++ l.fn.out)) l.lost l.rows l.known l.fn.out (entry l.inverse) l.b l.out

abbrev pub decreases-columns : goal.decreases-columns
decreases-columns g l = g.row.F - l.b
