use Rattle.data_process.proofs.Rows.{AreRowsBefore}
use Rattle.data_process.proofs.reading.coming.are_rows.Given as goal

abbrev pub invariant-each : goal.invariant-each
invariant-each l = AreRowsBefore l.m l.rows l.at
