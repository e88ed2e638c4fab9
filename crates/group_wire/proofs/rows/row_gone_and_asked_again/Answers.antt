use Rattle.group_wire.proofs.RowsOfFates.{row_gone_and_asked_again}
use Rattle.group_wire.proofs.rows.row_gone_and_asked_again.Goals as goal

pub returns : goal.returns
returns c = row_gone_and_asked_again
