use Rattle.group_eras.proofs.Telling.{tickets_are_new}
use Rattle.group_eras.proofs.laws.tickets_are_new.Goals as goal

pub returns : goal.returns
returns c = tickets_are_new
