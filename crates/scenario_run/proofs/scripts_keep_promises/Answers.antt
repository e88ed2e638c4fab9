use Rattle.scenario_run.proofs.Promises.{scripts_keep_promises}
use Rattle.scenario_run.proofs.scripts_keep_promises.Goals as goal

pub returns : goal.returns
returns c = scripts_keep_promises
