use Rattle.group_regroup.proofs.Fitting.{numbers-fit}
use Rattle.group_regroup.proofs.stepping.numbers_fit.Goals as goal

pub returns : goal.returns
returns c = numbers-fit
