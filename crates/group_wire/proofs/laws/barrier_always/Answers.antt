use Rattle.group_wire.proofs.Honest.{barrier_always}
use Rattle.group_wire.proofs.laws.barrier_always.Goals as goal

pub returns : goal.returns
returns c = barrier_always
