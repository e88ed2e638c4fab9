use Rattle.law_answers.proofs.Walks.{deliveries_always}
use Rattle.law_answers.proofs.deliveries_always.Goals as goal

pub returns : goal.returns
returns c = deliveries_always
