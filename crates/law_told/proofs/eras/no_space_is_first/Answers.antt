use Rattle.law_told.proofs.Carried.{no_space_is_first}
use Rattle.law_told.proofs.eras.no_space_is_first.Goals as goal

pub returns : goal.returns
returns c = no_space_is_first
