use Rattle.group_wire.proofs.RowsOfCalls.{row_a_head_fails}
use Rattle.group_wire.proofs.rows.row_a_head_fails.Goals as goal

pub returns : goal.returns
returns c = row_a_head_fails
