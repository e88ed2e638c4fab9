use Rattle.group_wire.proofs.RowsThatBreak.{row_one_pong_too_few}
use Rattle.group_wire.proofs.rows.row_one_pong_too_few.Goals as goal

pub returns : goal.returns
returns c = row_one_pong_too_few
