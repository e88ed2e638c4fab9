use Rattle.group_wire.proofs.RowsOfEnds.{row_two_fail_one_by_one}
use Rattle.group_wire.proofs.rows.row_two_fail_one_by_one.Goals as goal

pub returns : goal.returns
returns c = row_two_fail_one_by_one
