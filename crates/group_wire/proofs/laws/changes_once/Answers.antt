use Rattle.group_wire.proofs.Once.{changes_once}
use Rattle.group_wire.proofs.laws.changes_once.Goals as goal

pub returns : goal.returns
returns c = changes_once
