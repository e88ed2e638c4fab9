use Rattle.law_headline.proofs.Headlines.{copies_always}
use Rattle.law_headline.proofs.copies_always.Goals as goal

pub returns : goal.returns
returns c = copies_always
