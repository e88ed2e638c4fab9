use Rattle.law_answers.proofs.Asks.{rules_always}
use Rattle.law_answers.proofs.rules_always.Goals as goal

pub returns : goal.returns
returns c = rules_always
