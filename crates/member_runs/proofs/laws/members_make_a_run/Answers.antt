use Rattle.group_wire.proofs.FromWhom.{callers_are_theirs}
use Rattle.member_runs.proofs.Running.{make-a-run}
use Rattle.member_runs.proofs.laws.members_make_a_run.Goals as goal

pub returns : goal.returns
returns c = make-a-run callers_are_theirs
