use Rattle.law_answers.proofs.Inside.{sends_inside}
use Rattle.law_answers.proofs.sends_inside.Goals as goal

pub returns : goal.returns
returns c = sends_inside
