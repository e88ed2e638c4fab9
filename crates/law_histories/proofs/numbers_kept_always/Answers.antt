use Rattle.law_histories.proofs.Numbers.{numbers_kept_always}
use Rattle.law_histories.proofs.numbers_kept_always.Goals as goal

pub returns : goal.returns
returns c = numbers_kept_always
