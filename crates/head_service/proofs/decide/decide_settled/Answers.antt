use Rattle.std.proofs.Common.{Some, ap, ◌∙◌}
use Rattle.group_types.specs.Dimensions.{space_of}
use Rattle.head_service.specs.Beneath.{found_in}
use Rattle.head_service.proofs.Deciding.{at-slot}
use Rattle.head_service.proofs.decide.decide_settled.Goals as goal

pub returns-in-Some-clause-decision : goal.returns-in-Some-clause-decision
returns-in-Some-clause-decision g c =
    let read = found_in (g.B.Beneath.storage c.args.below.now).shape c.args.partition.0 (g.B.Beneath.storage c.args.below.now).process in
    at-slot (space_of c.args.replica.now.shape) c.args.replica.now.replica c.args.op.now read c.decide_read.result
    (ap Some c.in-Some.item-is ∙ c.in-Some.ensures.item) c.decide_read.ensures.decision

pub returns-in_default-clause-decision : goal.returns-in_default-clause-decision
returns-in_default-clause-decision g c =
    let read = found_in (g.B.Beneath.storage c.args.below.now).shape c.args.partition.0 (g.B.Beneath.storage c.args.below.now).process in
    at-slot (space_of c.args.replica.now.shape) c.args.replica.now.replica c.args.op.now read c.decide_unread.result
    c.item-slot.ensures.item c.decide_unread.ensures.decision
