use Rattle.law_progress.proofs.Whole.{drains-whole}
use Rattle.law_progress.proofs.weights_drain.Goals as goal

pub returns : goal.returns
returns c = drains-whole
