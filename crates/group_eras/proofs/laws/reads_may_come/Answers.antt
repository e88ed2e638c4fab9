use Rattle.group_eras.proofs.Promises.{reads_may_come}
use Rattle.group_eras.proofs.laws.reads_may_come.Goals as goal

pub returns : goal.returns
returns c = reads_may_come
