use Rattle.law_progress.proofs.Rising.{rises-little}
use Rattle.law_progress.proofs.events_add_little.Goals as goal

pub returns : goal.returns
returns c = rises-little
