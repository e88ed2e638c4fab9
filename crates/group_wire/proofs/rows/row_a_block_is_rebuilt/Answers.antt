use Rattle.group_wire.proofs.RowsOfLosses.{row_a_block_is_rebuilt}
use Rattle.group_wire.proofs.rows.row_a_block_is_rebuilt.Goals as goal

pub returns : goal.returns
returns c = row_a_block_is_rebuilt
