use Rattle.group_wire.proofs.Ending.{told_can_be_shown}
use Rattle.group_wire.proofs.laws.told_can_be_shown.Goals as goal

pub returns : goal.returns
returns c = told_can_be_shown
