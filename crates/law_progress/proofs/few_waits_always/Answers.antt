use Rattle.law_progress.proofs.Waits.{few_waits_always}
use Rattle.law_progress.proofs.few_waits_always.Goals as goal

pub returns : goal.returns
returns c = few_waits_always
