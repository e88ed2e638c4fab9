use Rattle.group_wire.proofs.Compositions.{positions_always}
use Rattle.group_wire.proofs.laws.positions_always.Goals as goal

pub returns : goal.returns
returns c = positions_always
