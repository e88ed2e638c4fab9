use Rattle.front_end.proofs.Piecing.{not-so}
use Rattle.front_end.proofs.close.end_at.Goals as goal

pub returns-then-at_start : goal.returns-then-at_start
returns-then-at_start c input requests read none = (c.at_start.ensures input requests read none).0 c.if-at_start.true

pub returns-else-at_start : goal.returns-else-at_start
returns-else-at_start c input requests read none = not-so _ _ (c.at_start.ensures input requests read none) c.if-at_start.false
