use Rattle.law_histories.proofs.Numbers.{logs_short_always}
use Rattle.law_histories.proofs.logs_short_always.Goals as goal

pub returns : goal.returns
returns c = logs_short_always
