use Rattle.law_moves.proofs.Known.{known_stays}
use Rattle.law_moves.proofs.known_stays.Goals as goal

pub returns : goal.returns
returns c = known_stays
