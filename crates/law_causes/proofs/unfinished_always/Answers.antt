use Rattle.law_causes.proofs.Always.{unfinished_always}
use Rattle.law_causes.proofs.unfinished_always.Goals as goal

pub returns : goal.returns
returns c = unfinished_always
