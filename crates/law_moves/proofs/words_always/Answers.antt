use Rattle.law_moves.proofs.Downs.{words_always}
use Rattle.law_moves.proofs.words_always.Goals as goal

pub returns : goal.returns
returns c = words_always
