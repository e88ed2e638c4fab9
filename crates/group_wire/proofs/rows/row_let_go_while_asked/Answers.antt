use Rattle.group_wire.proofs.RowsOfSigns.{row_let_go_while_asked}
use Rattle.group_wire.proofs.rows.row_let_go_while_asked.Goals as goal

pub returns : goal.returns
returns c = row_let_go_while_asked
