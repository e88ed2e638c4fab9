use Rattle.group_wire.proofs.Sizes.{sizes_are_counts}
use Rattle.group_wire.proofs.laws.sizes_are_counts.Goals as goal

pub returns : goal.returns
returns c = sizes_are_counts
