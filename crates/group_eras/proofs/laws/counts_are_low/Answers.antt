use Rattle.group_eras.proofs.Counting.{counts_are_low}
use Rattle.group_eras.proofs.laws.counts_are_low.Goals as goal

pub returns : goal.returns
returns c = counts_are_low
