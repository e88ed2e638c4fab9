use Rattle.std.proofs.Common.{◌≡◌, IfOk, ap, subst, ◌∙◌}
use Rattle.group_types.specs.Dimensions.{space_of}
use Rattle.group_calls.specs.declared.decision.Decision.{Decision}
use Rattle.group_run.specs.Deciding.{is_touch}
use Rattle.head_service.specs.Beneath.{found_in}
use Rattle.head_service.proofs.Deciding.{left-ruled}
use Rattle.head_service.proofs.decide.decide_ruled.Goals as goal

pub returns-clause-decision : goal.returns-clause-decision
returns-clause-decision g c =
    let read = found_in (g.B.Beneath.storage c.args.below.now).shape c.args.partition.0 (g.B.Beneath.storage c.args.below.now).process in
    subst (λ (d : Decision). IfOk c.decide_left.result (λ x. x ≡ d))
    (left-ruled (space_of c.args.replica.now.shape) c.args.replica.now.replica c.args.op.now read
    c.outcome_of-outcome.result c.is_touch-touch.result c.args.ruling
    c.in-Accepted.reply c.in-Accepted.leaves c.in-Accepted.is c.outcome_of-outcome.ensures (c.is_touch-touch.ensures
    ∙ ap is_touch c.act.ensures) c.in-None.ensures.few)
    c.decide_left.ensures.decision
