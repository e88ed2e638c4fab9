use Rattle.std.proofs.Common.{sym}
use Rattle.group_types.proofs.Lists.{at_behind, at_index}
use Rattle.moving_gateway.proofs.numbers.base_of.Goals as goal

pub returns-then-place-bases : goal.returns-then-place-bases
returns-then-place-bases c = sym (at_index 0 0 c.args.bases.now c.args.partition c.if-place-bases.true)

pub returns-else-place-bases : goal.returns-else-place-bases
returns-else-place-bases c = sym (at_behind 0 c.args.bases.now c.args.partition c.if-place-bases.false)
