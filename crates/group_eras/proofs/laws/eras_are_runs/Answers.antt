use Rattle.group_eras.proofs.Promises.{eras_are_runs}
use Rattle.group_eras.proofs.laws.eras_are_runs.Goals as goal

pub returns : goal.returns
returns c = eras_are_runs
