use Rattle.group_rows.proofs.Updates.{full_window}
use Rattle.group_rows.proofs.row_full_window.Goals as goal

pub returns : goal.returns
returns c = full_window
