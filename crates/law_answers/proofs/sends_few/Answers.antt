use Rattle.law_answers.proofs.Starting.{sends_few}
use Rattle.law_answers.proofs.sends_few.Goals as goal

pub returns : goal.returns
returns c = sends_few
