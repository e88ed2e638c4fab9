use Rattle.law_answers.proofs.Settling.{settles_few}
use Rattle.law_answers.proofs.settles_few.Goals as goal

pub returns : goal.returns
returns c = settles_few
