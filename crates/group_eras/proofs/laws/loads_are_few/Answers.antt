use Rattle.group_eras.proofs.Counting.{loads_are_few}
use Rattle.group_eras.proofs.laws.loads_are_few.Goals as goal

pub returns : goal.returns
returns c = loads_are_few
