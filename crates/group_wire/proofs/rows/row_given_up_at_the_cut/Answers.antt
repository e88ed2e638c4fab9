use Rattle.group_wire.proofs.RowsThatBreak.{row_given_up_at_the_cut}
use Rattle.group_wire.proofs.rows.row_given_up_at_the_cut.Goals as goal

pub returns : goal.returns
returns c = row_given_up_at_the_cut
