use Rattle.group_eras.proofs.Promises.{sets_may_come}
use Rattle.group_eras.proofs.laws.sets_may_come.Goals as goal

pub returns : goal.returns
returns c = sets_may_come
