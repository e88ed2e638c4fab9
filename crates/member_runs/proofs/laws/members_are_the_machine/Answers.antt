use Rattle.group_wire.proofs.Compositions.{runs_compose}
use Rattle.group_wire.proofs.FromWhom.{callers_are_theirs}
use Rattle.member_runs.proofs.Following.{are-the-machine}
use Rattle.member_runs.proofs.laws.members_are_the_machine.Goals as goal

pub returns : goal.returns
returns c = are-the-machine callers_are_theirs runs_compose
