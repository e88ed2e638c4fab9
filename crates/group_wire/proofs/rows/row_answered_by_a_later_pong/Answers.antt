use Rattle.group_wire.proofs.RowsOfSigns.{row_answered_by_a_later_pong}
use Rattle.group_wire.proofs.rows.row_answered_by_a_later_pong.Goals as goal

pub returns : goal.returns
returns c = row_answered_by_a_later_pong
