use Rattle.group_eras.proofs.Worked.{may_be_worked}
use Rattle.group_eras.proofs.laws.may_be_worked.Goals as goal

pub returns : goal.returns
returns c = may_be_worked
