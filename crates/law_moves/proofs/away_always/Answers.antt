use Rattle.law_moves.proofs.Aways.{away_always}
use Rattle.law_moves.proofs.away_always.Goals as goal

pub returns : goal.returns
returns c = away_always
