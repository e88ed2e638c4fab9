use Rattle.group_rows.proofs.Tables.{numerals}
use Rattle.group_rows.proofs.row_numerals.Goals as goal

pub returns : goal.returns
returns c = numerals
