use Rattle.group_wire.proofs.FromWhom.{callers_are_theirs}
use Rattle.group_wire.proofs.laws.callers_are_theirs.Goals as goal

pub returns : goal.returns
returns c = callers_are_theirs
