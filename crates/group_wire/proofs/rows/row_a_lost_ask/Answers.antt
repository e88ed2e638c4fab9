use Rattle.group_wire.proofs.RowsOfFates.{row_a_lost_ask}
use Rattle.group_wire.proofs.rows.row_a_lost_ask.Goals as goal

pub returns : goal.returns
returns c = row_a_lost_ask
