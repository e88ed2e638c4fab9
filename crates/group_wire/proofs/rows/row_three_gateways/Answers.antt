use Rattle.group_wire.proofs.RowsOfGateways.{row_three_gateways}
use Rattle.group_wire.proofs.rows.row_three_gateways.Goals as goal

pub returns : goal.returns
returns c = row_three_gateways
