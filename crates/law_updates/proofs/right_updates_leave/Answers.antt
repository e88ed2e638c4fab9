use Rattle.law_updates.proofs.Steps.{right_updates_leave}
use Rattle.law_updates.proofs.right_updates_leave.Goals as goal

pub returns : goal.returns
returns c = right_updates_leave
