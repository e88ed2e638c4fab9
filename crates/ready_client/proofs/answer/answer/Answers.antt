use Rattle.std.proofs.Common.{◌++◌, subst}
use Rattle.front_end.specs.Settling.{IsDue}
use Rattle.front_end.specs.declared.due.Due.{Due}
use Rattle.ready_client.proofs.Calling.{wants-first}
use Rattle.ready_client.proofs.answer.answer.Goals as goal
use Rattle.ready_client.proofs.Asking.{soon, wants-none}

pub returns-in-Ok-Fail-clause-comes : goal.returns-in-Ok-Fail-clause-comes
returns-in-Ok-Fail-clause-comes g c = λ input input_now first before sent come. rw c.requires.wanted
    (c.order.ensures.comes c.args.turning.now.overlap (g.T.Clock.moment c.args.turning.now.clock.now) input input_now first before sent
    c.args.calls.now.list
    (subst (λ (due : Due). IsDue (g.T.Clock.moment c.args.turning.now.clock.now) c.args.connection.now.waiting due) c.in-Ok-Fail.field-0-is c.in-Ok-Fail.ensures.due) come)

pub returns-in-Ok-Text-clause-comes : goal.returns-in-Ok-Text-clause-comes
returns-in-Ok-Text-clause-comes g c = λ input input_now first before sent come. rw c.requires.wanted
    (c.tell.ensures.comes c.args.turning.now.overlap (g.T.Clock.moment c.args.turning.now.clock.now) input input_now first c.args.gateway.now
    before sent c.args.calls.now.list
    (subst (λ (due : Due). IsDue (g.T.Clock.moment c.args.turning.now.clock.now) c.args.connection.now.waiting due) c.in-Ok-Text.field-0-is c.in-Ok-Text.ensures.due) come)

pub returns-in-Err-clause-comes : goal.returns-in-Err-clause-comes
returns-in-Err-clause-comes g c = λ input input_now first before sent come. rw c.requires.wanted
    (wants-first g.G.Gateway.rules g.G.Gateway.order c.args.turning.now.overlap (g.T.Clock.moment c.args.turning.now.clock.now) input input_now
    first before c.args.gateway.now c.args.gateway.now _ c.args.connection.now c.args.calls.now.list 0 c.requires.some
    (g.G.Gateway.order.same c.args.gateway.now) come.opened come.distinct come)

pub returns-in-Ok-Fail-clause-asks : goal.returns-in-Ok-Fail-clause-asks
returns-in-Ok-Fail-clause-asks g c = λ input_now sent input first before come. rw c.requires.wanted
    (c.order.ensures.asks c.args.turning.now.overlap (g.T.Clock.moment c.args.turning.now.clock.now) input_now sent c.args.calls.now.list
    (subst (λ (due : Due). IsDue (g.T.Clock.moment c.args.turning.now.clock.now) c.args.connection.now.waiting due)
    c.in-Ok-Fail.field-0-is c.in-Ok-Fail.ensures.due) input first before come)

pub returns-in-Ok-Text-clause-asks : goal.returns-in-Ok-Text-clause-asks
returns-in-Ok-Text-clause-asks g c = λ input_now sent input first before come. rw c.requires.wanted
    (c.tell.ensures.asks c.args.turning.now.overlap (g.T.Clock.moment c.args.turning.now.clock.now) input_now c.args.gateway.now sent
    c.args.calls.now.list
    (subst (λ (due : Due). IsDue (g.T.Clock.moment c.args.turning.now.clock.now) c.args.connection.now.waiting due)
    c.in-Ok-Text.field-0-is c.in-Ok-Text.ensures.due) input first before come)

pub returns-in-Err-clause-asks : goal.returns-in-Err-clause-asks
returns-in-Err-clause-asks g c = λ input_now sent input first before come. rw c.requires.wanted
    (wants-none g.G.Gateway.rules (g.T.Clock.moment c.args.turning.now.clock.now) sent c.args.gateway.now c.args.connection.now
    c.args.calls.now.list (sent ++ c.args.outbox.now) (soon sent c.args.outbox.now c.requires.short))
