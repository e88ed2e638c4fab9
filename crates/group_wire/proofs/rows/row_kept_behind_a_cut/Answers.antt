use Rattle.group_wire.proofs.RowsOfGateways.{row_kept_behind_a_cut}
use Rattle.group_wire.proofs.rows.row_kept_behind_a_cut.Goals as goal

pub returns : goal.returns
returns c = row_kept_behind_a_cut
