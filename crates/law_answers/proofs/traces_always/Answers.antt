use Rattle.law_answers.proofs.Traces.{traces_always}
use Rattle.law_answers.proofs.traces_always.Goals as goal

pub returns : goal.returns
returns c = traces_always
