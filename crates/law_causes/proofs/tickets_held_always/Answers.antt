use Rattle.law_causes.proofs.Calls.{tickets_held_always}
use Rattle.law_causes.proofs.tickets_held_always.Goals as goal

pub returns : goal.returns
returns c = tickets_held_always
