use Rattle.world_caller.proofs.Answering.{collects_always}
use Rattle.world_caller.proofs.laws.collects_lead_on.Goals as goal

pub returns : goal.returns
returns c = collects_always
