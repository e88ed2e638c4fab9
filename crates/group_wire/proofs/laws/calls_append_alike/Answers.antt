use Rattle.group_wire.proofs.Appending.{calls_append_alike}
use Rattle.group_wire.proofs.laws.calls_append_alike.Goals as goal

pub returns : goal.returns
returns c = calls_append_alike
