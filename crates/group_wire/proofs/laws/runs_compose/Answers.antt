use Rattle.group_wire.proofs.Compositions.{runs_compose}
use Rattle.group_wire.proofs.laws.runs_compose.Goals as goal

pub returns : goal.returns
returns c = runs_compose
