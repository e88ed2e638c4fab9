use Rattle.law_causes.proofs.Values.{runs_always}
use Rattle.law_causes.proofs.runs_always.Goals as goal

pub returns : goal.returns
returns c = runs_always
