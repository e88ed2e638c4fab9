use Rattle.law_answers.proofs.Walks.{failures_always}
use Rattle.law_answers.proofs.failures_always.Goals as goal

pub returns : goal.returns
returns c = failures_always
