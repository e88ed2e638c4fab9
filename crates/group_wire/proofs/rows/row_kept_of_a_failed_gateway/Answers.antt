use Rattle.group_wire.proofs.RowsOfEnds.{row_kept_of_a_failed_gateway}
use Rattle.group_wire.proofs.rows.row_kept_of_a_failed_gateway.Goals as goal

pub returns : goal.returns
returns c = row_kept_of_a_failed_gateway
