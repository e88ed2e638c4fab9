use Rattle.law_answers.proofs.Walks.{collects_always}
use Rattle.law_answers.proofs.collects_always.Goals as goal

pub returns : goal.returns
returns c = collects_always
