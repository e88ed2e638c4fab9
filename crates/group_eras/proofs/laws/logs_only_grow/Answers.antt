use Rattle.group_eras.proofs.Promises.{logs_only_grow}
use Rattle.group_eras.proofs.laws.logs_only_grow.Goals as goal

pub returns : goal.returns
returns c = logs_only_grow
