use Rattle.group_wire.proofs.Ending.{answered_can_be_shown}
use Rattle.group_wire.proofs.laws.answered_can_be_shown.Goals as goal

pub returns : goal.returns
returns c = answered_can_be_shown
