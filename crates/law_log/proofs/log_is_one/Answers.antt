use Rattle.law_log.proofs.Ones.{log_is_one}
use Rattle.law_log.proofs.log_is_one.Goals as goal

pub returns : goal.returns
returns c = log_is_one
