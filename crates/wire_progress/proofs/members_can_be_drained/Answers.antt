use Rattle.wire_progress.proofs.Emptying.{members_can_be_drained}
use Rattle.wire_progress.proofs.members_can_be_drained.Goals as goal

pub returns : goal.returns
returns c = members_can_be_drained
