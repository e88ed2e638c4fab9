use Rattle.law_headline.proofs.Headlines.{rebuilt_always}
use Rattle.law_headline.proofs.rebuilt_always.Goals as goal

pub returns : goal.returns
returns c = rebuilt_always
