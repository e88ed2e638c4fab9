use Rattle.group_wire.proofs.Once.{asked_once}
use Rattle.group_wire.proofs.laws.asked_once.Goals as goal

pub returns : goal.returns
returns c = asked_once
