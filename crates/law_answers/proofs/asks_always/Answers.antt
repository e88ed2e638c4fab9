use Rattle.law_answers.proofs.Asks.{asks_always}
use Rattle.law_answers.proofs.asks_always.Goals as goal

pub returns : goal.returns
returns c = asks_always
