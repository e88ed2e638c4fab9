use Rattle.head_service.proofs.Machine.{asks_are_the_machines}
use Rattle.head_service.proofs.laws.asks_are_the_machines.Goals as goal

pub returns : goal.returns
returns c = asks_are_the_machines
