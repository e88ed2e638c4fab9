use Rattle.law_causes.proofs.Worked.{answers_come}
use Rattle.law_causes.proofs.answers_come.Goals as goal

pub returns : goal.returns
returns c = answers_come
