use Rattle.std.proofs.Common.{Bool, subst}
use Rattle.group_stage.specs.Pairing.{CanDeliver, one_of, other_of}
use Rattle.group_stage.proofs.delivering.deliver_in_order.Goals as goal

pub deliver_between-requires-clause-comes : goal.deliver_between-requires-clause-comes
deliver_between-requires-clause-comes c =
    (subst (λ (b : Bool). CanDeliver (one_of b c.args.first.now c.args.second.now)
    (other_of b c.args.first.now c.args.second.now)) c.if-up.true c.requires.can).comes

pub deliver_between-requires-else-up-clause-comes : goal.deliver_between-requires-else-up-clause-comes
deliver_between-requires-else-up-clause-comes c =
    (subst (λ (b : Bool). CanDeliver (one_of b c.args.first.now c.args.second.now)
    (other_of b c.args.first.now c.args.second.now)) c.if-up.false c.requires.can).comes
