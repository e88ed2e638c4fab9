use Rattle.group_wire.proofs.RowsThatBreak.{row_more_than_m}
use Rattle.group_wire.proofs.rows.row_more_than_m.Goals as goal

pub returns : goal.returns
returns c = row_more_than_m
