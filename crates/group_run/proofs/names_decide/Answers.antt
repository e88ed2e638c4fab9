use Rattle.group_run.proofs.Locality.{names_decide}
use Rattle.group_run.proofs.names_decide.Goals as goal

pub returns : goal.returns
returns c = names_decide
