use Rattle.head_service.proofs.Deciding.{too-long}
use Rattle.head_service.proofs.body.place.Goals as goal

pub returns-then-space-len-clause-place : goal.returns-then-space-len-clause-place
returns-then-space-len-clause-place c = too-long c.args.space c.args.replica.now.replica c.args.len c.if-space-len.true
