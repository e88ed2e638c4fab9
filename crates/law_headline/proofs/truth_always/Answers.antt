use Rattle.law_headline.proofs.Truth.{truth_always}
use Rattle.law_headline.proofs.truth_always.Goals as goal

pub returns : goal.returns
returns c = truth_always
