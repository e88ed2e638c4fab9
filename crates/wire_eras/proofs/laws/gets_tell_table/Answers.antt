use Rattle.wire_eras.proofs.Reading.{gets_tell_table}
use Rattle.wire_eras.proofs.laws.gets_tell_table.Goals as goal

pub returns : goal.returns
returns c = gets_tell_table
