use Rattle.group_wire.proofs.Compositions.{notices_fit}
use Rattle.group_wire.proofs.laws.notices_fit.Goals as goal

pub returns : goal.returns
returns c = notices_fit
