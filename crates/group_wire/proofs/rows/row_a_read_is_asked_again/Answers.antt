use Rattle.group_wire.proofs.RowsOfGateways.{row_a_read_is_asked_again}
use Rattle.group_wire.proofs.rows.row_a_read_is_asked_again.Goals as goal

pub returns : goal.returns
returns c = row_a_read_is_asked_again
