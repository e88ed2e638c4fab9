use Rattle.group_wire.proofs.Showing.{shown_is_made}
use Rattle.group_wire.proofs.laws.shown_is_made.Goals as goal

pub returns : goal.returns
returns c = shown_is_made
