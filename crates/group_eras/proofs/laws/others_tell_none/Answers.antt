use Rattle.group_eras.proofs.Numbers.{others_tell_none}
use Rattle.group_eras.proofs.laws.others_tell_none.Goals as goal

pub returns : goal.returns
returns c = others_tell_none
