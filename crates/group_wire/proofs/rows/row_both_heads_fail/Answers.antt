use Rattle.group_wire.proofs.RowsOfFailures.{row_both_heads_fail}
use Rattle.group_wire.proofs.rows.row_both_heads_fail.Goals as goal

pub returns : goal.returns
returns c = row_both_heads_fail
