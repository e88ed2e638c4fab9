use Rattle.law_causes.proofs.Flushing.{tells_always}
use Rattle.law_causes.proofs.tells_always.Goals as goal

pub returns : goal.returns
returns c = tells_always
