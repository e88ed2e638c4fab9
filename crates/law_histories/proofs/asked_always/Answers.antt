use Rattle.law_histories.proofs.Quiet.{asked_always}
use Rattle.law_histories.proofs.asked_always.Goals as goal

pub returns : goal.returns
returns c = asked_always
