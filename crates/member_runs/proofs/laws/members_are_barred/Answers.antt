use Rattle.group_wire.proofs.Honest.{barrier_always}
use Rattle.group_wire.proofs.FromWhom.{callers_are_theirs}
use Rattle.member_runs.proofs.Following.{are-barred}
use Rattle.member_runs.proofs.laws.members_are_barred.Goals as goal

pub returns : goal.returns
returns c = are-barred callers_are_theirs barrier_always
