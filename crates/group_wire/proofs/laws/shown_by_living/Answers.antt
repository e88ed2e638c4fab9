use Rattle.group_wire.proofs.Honest.{shown_by_living}
use Rattle.group_wire.proofs.laws.shown_by_living.Goals as goal

pub returns : goal.returns
returns c = shown_by_living
