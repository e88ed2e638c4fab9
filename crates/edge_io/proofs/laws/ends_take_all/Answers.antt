use Rattle.edge_io.proofs.Moving.{Takes-all}
use Rattle.edge_io.proofs.laws.ends_take_all.Goals as goal

pub returns : goal.returns
returns c = Takes-all
