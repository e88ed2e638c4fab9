use Rattle.law_progress.proofs.Drained.{groups_drain}
use Rattle.law_progress.proofs.groups_drain.Goals as goal

pub returns : goal.returns
returns c = groups_drain
