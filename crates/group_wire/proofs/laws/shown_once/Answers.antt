use Rattle.group_wire.proofs.Once.{shown_once}
use Rattle.group_wire.proofs.laws.shown_once.Goals as goal

pub returns : goal.returns
returns c = shown_once
