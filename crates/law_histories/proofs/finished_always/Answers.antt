use Rattle.law_histories.proofs.Quiet.{finished_always}
use Rattle.law_histories.proofs.finished_always.Goals as goal

pub returns : goal.returns
returns c = finished_always
