use Rattle.law_headline.proofs.Sessions.{sessions_stand_always}
use Rattle.law_headline.proofs.sessions_stand_always.Goals as goal

pub returns : goal.returns
returns c = sessions_stand_always
