use Rattle.head_service.proofs.Machine.{takeovers_are_the_machines}
use Rattle.head_service.proofs.laws.takeovers_are_the_machines.Goals as goal

pub returns : goal.returns
returns c = takeovers_are_the_machines
