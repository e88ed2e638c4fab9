use Rattle.group_wire.proofs.Honest.{few_are_named}
use Rattle.group_wire.proofs.laws.few_are_named.Goals as goal

pub returns : goal.returns
returns c = few_are_named
