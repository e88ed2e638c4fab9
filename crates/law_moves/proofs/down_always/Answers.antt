use Rattle.law_moves.proofs.Downs.{down_always}
use Rattle.law_moves.proofs.down_always.Goals as goal

pub returns : goal.returns
returns c = down_always
