use Rattle.group_wire.proofs.Compositions.{misfits_never_come}
use Rattle.group_wire.proofs.laws.misfits_never_come.Goals as goal

pub returns : goal.returns
returns c = misfits_never_come
