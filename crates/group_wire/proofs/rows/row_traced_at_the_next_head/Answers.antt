use Rattle.group_wire.proofs.RowsOfCalls.{row_traced_at_the_next_head}
use Rattle.group_wire.proofs.rows.row_traced_at_the_next_head.Goals as goal

pub returns : goal.returns
returns c = row_traced_at_the_next_head
