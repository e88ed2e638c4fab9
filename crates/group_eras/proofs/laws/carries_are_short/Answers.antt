use Rattle.group_eras.proofs.Short.{carries_are_short}
use Rattle.group_eras.proofs.laws.carries_are_short.Goals as goal

pub returns : goal.returns
returns c = carries_are_short
