use Rattle.law_headline.proofs.Sessions.{recovers_always}
use Rattle.law_headline.proofs.recovers_always.Goals as goal

pub returns : goal.returns
returns c = recovers_always
