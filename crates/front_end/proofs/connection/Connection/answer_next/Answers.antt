use Rattle.std.proofs.Common.{subst}
use Rattle.front_end.specs.Settling.{IsDue}
use Rattle.front_end.proofs.Handing.{if-fault, if-any, if-none}
use Rattle.front_end.proofs.Settling.{breaks-early, breaks-unmade, breaks-wanted, call-steps, call-breaks, order-steps, order-breaks}
use Rattle.front_end.proofs.connection.Connection.answer_next.Goals as goal

pub returns-in_err-op-clause-broken : goal.returns-in_err-op-clause-broken
returns-in_err-op-clause-broken g c = if-fault _ c.from_residual.result _ c.from_residual.ensures.1 (breaks-early _ _ _ _ _ _ c.requires.some)

pub returns-in_err-end-in-Call-clause-broken : goal.returns-in_err-end-in-Call-clause-broken
returns-in_err-end-in-Call-clause-broken g c = if-fault _ c.from_residual-in_err-end-in-Call.result _ c.from_residual-in_err-end-in-Call.ensures.1
    (breaks-wanted _ _ _ _ _ _ _ (subst (IsDue (g.T.Clock.moment c.args.clock.now) c.args.self.now.waiting) c.in-Call.is
    c.in_ok-op.ensures.due) c.in_err-end-in-Call.ensures.want)

pub returns-in_err-end-in-Fail-clause-broken : goal.returns-in_err-end-in-Fail-clause-broken
returns-in_err-end-in-Fail-clause-broken g c = if-fault _ c.from_residual-in_err-end-in-Fail.result _ c.from_residual-in_err-end-in-Fail.ensures.1
    (breaks-unmade _ _ _ _ _ _ _ _ (subst (IsDue (g.T.Clock.moment c.args.clock.now) c.args.self.now.waiting)
    c.in-Fail.is c.in_ok-op.ensures.due) c.in_err-end-in-Fail.ensures.want)

pub returns-in_ok-end-in-Call-clause-answer : goal.returns-in_ok-end-in-Call-clause-answer
returns-in_ok-end-in-Call-clause-answer g c = if-none c.settle.result
    (call-steps _ _ _ _ _ _ _ _ _ _ (subst (IsDue (g.T.Clock.moment c.args.clock.now) c.args.self.now.waiting)
    c.in-Call.is c.in_ok-op.ensures.due) c.in_ok-end-in-Call.ensures.made) c.settle.ensures.settled

pub returns-in_ok-end-in-Call-clause-broken : goal.returns-in_ok-end-in-Call-clause-broken
returns-in_ok-end-in-Call-clause-broken g c = if-any _ c.settle.result
    (λ fault. call-breaks _ _ _ _ _ _ _ _ fault _
    (subst (IsDue (g.T.Clock.moment c.args.clock.now) c.args.self.now.waiting) c.in-Call.is c.in_ok-op.ensures.due)
    c.in_ok-end-in-Call.ensures.made c.settle.ensures.part)

pub returns-in_ok-end-in-Fail-clause-answer : goal.returns-in_ok-end-in-Fail-clause-answer
returns-in_ok-end-in-Fail-clause-answer g c = if-none c.settle_fail.result
    (order-steps _ _ _ _ _ _ _ _ _ _ _ (subst (IsDue (g.T.Clock.moment c.args.clock.now) c.args.self.now.waiting)
    c.in-Fail.is c.in_ok-op.ensures.due) c.in_ok-end-in-Fail.ensures.failed) c.settle_fail.ensures.told

pub returns-in_ok-end-in-Fail-clause-broken : goal.returns-in_ok-end-in-Fail-clause-broken
returns-in_ok-end-in-Fail-clause-broken g c = if-any _ c.settle_fail.result
    (λ fault. order-breaks _ _ _ _ _ _ _ _ _ fault _
    (subst (IsDue (g.T.Clock.moment c.args.clock.now) c.args.self.now.waiting) c.in-Fail.is c.in_ok-op.ensures.due)
    c.in_ok-end-in-Fail.ensures.failed c.settle_fail.ensures.part)
