use Rattle.group_wire.proofs.RowsOfGateways.{row_ghosts}
use Rattle.group_wire.proofs.rows.row_ghosts.Goals as goal

pub returns : goal.returns
returns c = row_ghosts
