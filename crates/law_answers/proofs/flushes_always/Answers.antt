use Rattle.law_answers.proofs.Walks.{flushes_always}
use Rattle.law_answers.proofs.flushes_always.Goals as goal

pub returns : goal.returns
returns c = flushes_always
