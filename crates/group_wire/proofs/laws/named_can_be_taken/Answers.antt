use Rattle.group_wire.proofs.GoingOn.{named_can_be_taken}
use Rattle.group_wire.proofs.laws.named_can_be_taken.Goals as goal

pub returns : goal.returns
returns c = named_can_be_taken
