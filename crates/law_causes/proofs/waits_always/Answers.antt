use Rattle.law_causes.proofs.Always.{waits_always}
use Rattle.law_causes.proofs.waits_always.Goals as goal

pub returns : goal.returns
returns c = waits_always
