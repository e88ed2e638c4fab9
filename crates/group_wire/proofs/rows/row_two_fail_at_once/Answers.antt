use Rattle.group_wire.proofs.RowsOfFailures.{row_two_fail_at_once}
use Rattle.group_wire.proofs.rows.row_two_fail_at_once.Goals as goal

pub returns : goal.returns
returns c = row_two_fail_at_once
