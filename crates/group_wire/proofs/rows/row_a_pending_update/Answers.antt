use Rattle.group_wire.proofs.RowsOfLosses.{row_a_pending_update}
use Rattle.group_wire.proofs.rows.row_a_pending_update.Goals as goal

pub returns : goal.returns
returns c = row_a_pending_update
