use Rattle.law_answers.proofs.Deaths.{few_dead_always}
use Rattle.law_answers.proofs.few_dead_always.Goals as goal

pub returns : goal.returns
returns c = few_dead_always
