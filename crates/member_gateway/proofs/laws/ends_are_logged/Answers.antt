use Rattle.group_wire.proofs.FromWhom.{callers_are_theirs}
use Rattle.group_wire.proofs.Showing.{shown_is_logged}
use Rattle.member_runs.proofs.Following.{show-logged}
use Rattle.member_gateway.proofs.Logged.{ends-logged}
use Rattle.member_gateway.proofs.laws.ends_are_logged.Goals as goal

pub returns : goal.returns
returns c = ends-logged callers_are_theirs (show-logged callers_are_theirs shown_is_logged)
