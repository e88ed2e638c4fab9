use Rattle.law_progress.proofs.Quiet.{quiet_always}
use Rattle.law_progress.proofs.quiet_always.Goals as goal

pub returns : goal.returns
returns c = quiet_always
