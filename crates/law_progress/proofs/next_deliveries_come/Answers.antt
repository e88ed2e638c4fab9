use Rattle.law_progress.proofs.Whole.{next-comes}
use Rattle.law_progress.proofs.next_deliveries_come.Goals as goal

pub returns : goal.returns
returns c = next-comes
