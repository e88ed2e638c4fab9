use Rattle.group_wire.proofs.Showing.{shown_is_logged}
use Rattle.group_wire.proofs.laws.shown_is_logged.Goals as goal

pub returns : goal.returns
returns c = shown_is_logged
