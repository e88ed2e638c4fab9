use Rattle.law_answers.proofs.Numbers.{numbers_low_always}
use Rattle.law_answers.proofs.numbers_low_always.Goals as goal

pub returns : goal.returns
returns c = numbers_low_always
