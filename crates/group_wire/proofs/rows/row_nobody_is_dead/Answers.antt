use Rattle.group_wire.proofs.RowsOfFailures.{row_nobody_is_dead}
use Rattle.group_wire.proofs.rows.row_nobody_is_dead.Goals as goal

pub returns : goal.returns
returns c = row_nobody_is_dead
