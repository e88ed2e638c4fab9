use Rattle.law_progress.proofs.Always.{deliveries_lower}
use Rattle.law_progress.proofs.deliveries_lower.Goals as goal

pub returns : goal.returns
returns c = deliveries_lower
