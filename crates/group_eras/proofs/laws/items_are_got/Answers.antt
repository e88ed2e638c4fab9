use Rattle.group_eras.proofs.Promises.{items_are_got}
use Rattle.group_eras.proofs.laws.items_are_got.Goals as goal

pub returns : goal.returns
returns c = items_are_got
