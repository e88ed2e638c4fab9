use Rattle.law_answers.proofs.Leaves.{asks_leave_always}
use Rattle.law_answers.proofs.asks_leave_always.Goals as goal

pub returns : goal.returns
returns c = asks_leave_always
