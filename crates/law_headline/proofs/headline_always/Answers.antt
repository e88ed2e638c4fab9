use Rattle.law_headline.proofs.Headlines.{headline_always}
use Rattle.law_headline.proofs.headline_always.Goals as goal

pub returns : goal.returns
returns c = headline_always
