use Rattle.group_wire.proofs.Honest.{permits_exactly}
use Rattle.group_wire.proofs.laws.permits_exactly.Goals as goal

pub returns : goal.returns
returns c = permits_exactly
