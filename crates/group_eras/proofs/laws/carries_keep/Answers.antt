use Rattle.group_eras.proofs.Promises.{carries_keep}
use Rattle.group_eras.proofs.laws.carries_keep.Goals as goal

pub returns : goal.returns
returns c = carries_keep
