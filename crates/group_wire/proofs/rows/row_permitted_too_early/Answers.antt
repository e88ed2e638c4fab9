use Rattle.group_wire.proofs.RowsThatBreak.{row_permitted_too_early}
use Rattle.group_wire.proofs.rows.row_permitted_too_early.Goals as goal

pub returns : goal.returns
returns c = row_permitted_too_early
