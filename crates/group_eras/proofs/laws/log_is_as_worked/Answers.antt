use Rattle.group_eras.proofs.Worked.{log_is_as_worked}
use Rattle.group_eras.proofs.laws.log_is_as_worked.Goals as goal

pub returns : goal.returns
returns c = log_is_as_worked
