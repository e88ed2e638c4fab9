use Rattle.group_wire.proofs.NoMisfits.{no_misfits_at_all}
use Rattle.group_wire.proofs.laws.no_misfits_at_all.Goals as goal

pub returns : goal.returns
returns c = no_misfits_at_all
