use Rattle.group_eras.proofs.Ranging.{untils_are_low}
use Rattle.group_eras.proofs.laws.untils_are_low.Goals as goal

pub returns : goal.returns
returns c = untils_are_low
