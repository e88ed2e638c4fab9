use Rattle.law_histories.proofs.Headed.{headed_always}
use Rattle.law_histories.proofs.headed_always.Goals as goal

pub returns : goal.returns
returns c = headed_always
