use Rattle.law_answers.proofs.Answering.{answers_always}
use Rattle.law_answers.proofs.answers_always.Goals as goal

pub returns : goal.returns
returns c = answers_always
