use Rattle.group_wire.proofs.Showing.{shown_is_logged}
use Rattle.group_wire.proofs.FromWhom.{callers_are_theirs}
use Rattle.member_runs.proofs.Following.{show-logged}
use Rattle.member_runs.proofs.laws.members_show_logged.Goals as goal

pub returns : goal.returns
returns c = show-logged callers_are_theirs shown_is_logged
