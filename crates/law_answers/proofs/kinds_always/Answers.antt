use Rattle.law_answers.proofs.Addressing.{kinds_always}
use Rattle.law_answers.proofs.kinds_always.Goals as goal

pub returns : goal.returns
returns c = kinds_always
