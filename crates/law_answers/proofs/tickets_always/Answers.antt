use Rattle.law_answers.proofs.Tickets.{tickets_always}
use Rattle.law_answers.proofs.tickets_always.Goals as goal

pub returns : goal.returns
returns c = tickets_always
