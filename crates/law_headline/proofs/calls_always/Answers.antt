use Rattle.law_headline.proofs.Headlines.{calls_always}
use Rattle.law_headline.proofs.calls_always.Goals as goal

pub returns : goal.returns
returns c = calls_always
