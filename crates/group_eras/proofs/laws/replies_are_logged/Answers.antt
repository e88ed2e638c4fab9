use Rattle.group_eras.proofs.Telling.{replies_are_logged}
use Rattle.group_eras.proofs.laws.replies_are_logged.Goals as goal

pub returns : goal.returns
returns c = replies_are_logged
