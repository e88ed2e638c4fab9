use Rattle.world_caller.proofs.Counting.{few_always}
use Rattle.world_caller.proofs.laws.asks_are_few.Goals as goal

pub returns : goal.returns
returns c = few_always
