use Rattle.wire_eras.proofs.Answering.{shown_is_of_table}
use Rattle.wire_eras.proofs.laws.shown_is_of_table.Goals as goal

pub returns : goal.returns
returns c = shown_is_of_table
