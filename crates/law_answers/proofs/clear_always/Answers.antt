use Rattle.law_answers.proofs.Asks.{clear_always}
use Rattle.law_answers.proofs.clear_always.Goals as goal

pub returns : goal.returns
returns c = clear_always
