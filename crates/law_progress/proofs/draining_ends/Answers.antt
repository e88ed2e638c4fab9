use Rattle.law_progress.proofs.Always.{draining_ends}
use Rattle.law_progress.proofs.draining_ends.Goals as goal

pub returns : goal.returns
returns c = draining_ends
