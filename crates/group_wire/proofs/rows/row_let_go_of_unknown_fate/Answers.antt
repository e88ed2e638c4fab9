use Rattle.group_wire.proofs.RowsOfSigns.{row_let_go_of_unknown_fate}
use Rattle.group_wire.proofs.rows.row_let_go_of_unknown_fate.Goals as goal

pub returns : goal.returns
returns c = row_let_go_of_unknown_fate
