use Rattle.law_progress.proofs.Drained.{deliveries_are_left}
use Rattle.law_progress.proofs.deliveries_are_left.Goals as goal

pub returns : goal.returns
returns c = deliveries_are_left
