use Rattle.group_wire.proofs.RowsOfFates.{row_shown_by_a_failed_one}
use Rattle.group_wire.proofs.rows.row_shown_by_a_failed_one.Goals as goal

pub returns : goal.returns
returns c = row_shown_by_a_failed_one
