use Rattle.wire_eras.proofs.Acknowledged.{acknowledged_keep}
use Rattle.wire_eras.proofs.laws.acknowledged_keep.Goals as goal

pub returns : goal.returns
returns c = acknowledged_keep
