use Rattle.world_caller.proofs.Delivering.{delivers_always}
use Rattle.world_caller.proofs.laws.due_delivers.Goals as goal

pub returns : goal.returns
returns c = delivers_always
