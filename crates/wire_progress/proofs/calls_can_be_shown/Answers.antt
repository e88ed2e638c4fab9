use Rattle.wire_progress.proofs.Showing.{calls_can_be_shown}
use Rattle.wire_progress.proofs.calls_can_be_shown.Goals as goal

pub returns : goal.returns
returns c = calls_can_be_shown
