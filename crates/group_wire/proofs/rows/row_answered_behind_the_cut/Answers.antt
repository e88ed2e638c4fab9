use Rattle.group_wire.proofs.RowsThatBreak.{row_answered_behind_the_cut}
use Rattle.group_wire.proofs.rows.row_answered_behind_the_cut.Goals as goal

pub returns : goal.returns
returns c = row_answered_behind_the_cut
