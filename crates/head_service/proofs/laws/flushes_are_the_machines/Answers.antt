use Rattle.head_service.proofs.Machine.{flushes_are_the_machines}
use Rattle.head_service.proofs.laws.flushes_are_the_machines.Goals as goal

pub returns : goal.returns
returns c = flushes_are_the_machines
