use Rattle.law_causes.proofs.Calls.{collected_always}
use Rattle.law_causes.proofs.collected_always.Goals as goal

pub returns : goal.returns
returns c = collected_always
