use Rattle.law_causes.proofs.Drained.{next_always}
use Rattle.law_causes.proofs.next_always.Goals as goal

pub returns : goal.returns
returns c = next_always
