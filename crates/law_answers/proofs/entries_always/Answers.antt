use Rattle.law_answers.proofs.Entries.{entries_always}
use Rattle.law_answers.proofs.entries_always.Goals as goal

pub returns : goal.returns
returns c = entries_always
