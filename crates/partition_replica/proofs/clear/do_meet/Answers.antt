use Rattle.std.proofs.Common.{arith}
use Rattle.partition_replica.proofs.Meeting.{meet_is}
use Rattle.partition_replica.proofs.clear.do_meet.Goals as goal

pub returns-then-saturating_sub-other : goal.returns-then-saturating_sub-other
returns-then-saturating_sub-other c =
    meet_is c.args.one c.args.other _ (omega (arith, c.saturating_sub-then-saturating_sub-other.ensures))
    (omega (arith, c.if-saturating_sub-other.true, c.saturating_sub.ensures))
