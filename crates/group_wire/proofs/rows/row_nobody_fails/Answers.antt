use Rattle.group_wire.proofs.RowsOfCalls.{row_nobody_fails}
use Rattle.group_wire.proofs.rows.row_nobody_fails.Goals as goal

pub returns : goal.returns
returns c = row_nobody_fails
