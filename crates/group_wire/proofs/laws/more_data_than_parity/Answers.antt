use Rattle.group_wire.proofs.Honest.{more_data_than_parity}
use Rattle.group_wire.proofs.laws.more_data_than_parity.Goals as goal

pub returns : goal.returns
returns c = more_data_than_parity
