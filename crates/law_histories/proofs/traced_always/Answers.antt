use Rattle.law_histories.proofs.Quiet.{traced_always}
use Rattle.law_histories.proofs.traced_always.Goals as goal

pub returns : goal.returns
returns c = traced_always
