use Rattle.law_histories.proofs.Copies.{forgotten_always}
use Rattle.law_histories.proofs.forgotten_always.Goals as goal

pub returns : goal.returns
returns c = forgotten_always
