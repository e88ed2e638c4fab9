use Rattle.world_caller.proofs.Answering.{asks_always}
use Rattle.world_caller.proofs.laws.asks_lead_on.Goals as goal

pub returns : goal.returns
returns c = asks_always
