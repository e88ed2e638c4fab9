use Rattle.group_wire.proofs.RowsOfEnds.{row_programs_end}
use Rattle.group_wire.proofs.rows.row_programs_end.Goals as goal

pub returns : goal.returns
returns c = row_programs_end
