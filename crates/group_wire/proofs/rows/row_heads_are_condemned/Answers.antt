use Rattle.group_wire.proofs.RowsOfFailures.{row_heads_are_condemned}
use Rattle.group_wire.proofs.rows.row_heads_are_condemned.Goals as goal

pub returns : goal.returns
returns c = row_heads_are_condemned
