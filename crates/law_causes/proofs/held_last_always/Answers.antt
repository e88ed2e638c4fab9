use Rattle.law_causes.proofs.Lasting.{held_last_always}
use Rattle.law_causes.proofs.held_last_always.Goals as goal

pub returns : goal.returns
returns c = held_last_always
