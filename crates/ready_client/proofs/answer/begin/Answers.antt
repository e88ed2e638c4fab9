use Rattle.std.proofs.Common.{◌++◌, ◌∷◌, [], List, None, length, refl, sym, ap, ◌∙◌, inr, subst}
use Rattle.ready_client.specs.Coming.{ComesAtGateway}
use Rattle.ready_client.specs.declared.open_call.OpenCall.{OpenCall}
use Rattle.ready_client.proofs.Calling.{called, some-of, wants-call}
use Rattle.ready_client.proofs.Listing.{kept-all, still-open}
use Rattle.ready_client.proofs.answer.begin.Goals as goal
use Rattle.front_end.specs.Ahead.{IsDueAhead}
use Rattle.front_end.specs.Gateway.{IsNotOpen}
use Rattle.ready_client.specs.Asking.{connection_at}
use Rattle.ready_client.specs.declared.open_call.OpenCall.TheVariants.{Open}
use Rattle.ready_client.proofs.Asking.{asks-none, asks-then, begins-one, due-first, soon, wants-begin}

pub returns-in-Ok-Some-clause-comes : goal.returns-in-Ok-Some-clause-comes
returns-in-Ok-Some-clause-comes g c = λ input input_now first before sent come. c.finish.ensures.comes input input_now first before sent (rw c.put_only.ensures
    (called g.G.Gateway.rules g.G.Gateway.order c.args.turning.now.overlap (g.T.Clock.moment c.args.turning.now.clock.now) input input_now first
    before c.args.gateway.now c.begin.new.self (sent ++ c.args.outbox.now) c.args.connection.now c.args.op
    c.in-Ok-Some.call c.requires.due
    (some-of (λ call. g.G.Gateway.rules.opened c.begin.new.self call c.args.op c.args.gateway.now) _ _
    c.in-Ok-Some.field-0-is c.in-Ok-Some.ensures.begun) c.begin.ensures.later
    (subst (λ (cs : List (OpenCall _)). ComesAtGateway g.G.Gateway.rules c.args.turning.now.overlap
    (g.T.Clock.moment c.args.turning.now.clock.now) input input_now first before c.args.gateway.now (sent ++ c.args.outbox.now)
    c.args.connection.now cs 0 None) c.requires.none come)))

pub returns-in-Ok-None-clause-comes : goal.returns-in-Ok-None-clause-comes
returns-in-Ok-None-clause-comes g c = λ input input_now first before sent come. rw (c.begin.ensures.full (cc)) (rw c.requires.wanted come)

pub returns-in-Err-clause-comes : goal.returns-in-Err-clause-comes
returns-in-Err-clause-comes g c = λ input input_now first before sent come. rw c.requires.wanted
    (wants-call g.G.Gateway.rules g.G.Gateway.order c.args.turning.now.overlap (g.T.Clock.moment c.args.turning.now.clock.now) input input_now
    first before c.args.gateway.now c.begin.new.self (sent ++ c.args.outbox.now) c.args.connection.now
    c.args.calls.now.list 0 c.args.op c.requires.due
    c.in-Err.ensures.want c.begin.ensures.later (still-open g.G.Gateway.rules c.args.gateway.now c.begin.new.self
    c.args.calls.now.list (kept-all g.G.Gateway.rules c.args.gateway.now c.begin.new.self c.args.calls.now.list
    c.begin.ensures.others) come.opened) come.distinct come)

pub returns-in-Ok-Some-clause-asks : goal.returns-in-Ok-Some-clause-asks
returns-in-Ok-Some-clause-asks g c = λ input_now sent input first before come. asks-then g.G.Gateway.rules (g.T.Clock.moment c.args.turning.now.clock.now) sent
    (connection_at c.args.gateway.now c.args.connection.now c.args.calls.now.list 0 None (sent ++ c.args.outbox.now))
    (connection_at c.begin.new.self c.args.connection.now c.put_only.new.self 0 None (sent ++ c.args.outbox.now)) _
    (begins-one g.G.Gateway.rules (g.T.Clock.moment c.args.turning.now.clock.now) sent c.args.gateway.now c.begin.new.self
    c.args.connection.now c.args.calls.now.list c.put_only.new.self (sent ++ c.args.outbox.now) c.args.op
    (Open c.in-Ok-Some.call) (soon sent c.args.outbox.now c.requires.short)
    (subst (λ (cs : List (OpenCall _)). IsDueAhead (g.T.Clock.moment c.args.turning.now.clock.now) c.args.connection.now.waiting
    (length cs) c.args.op) (sym c.requires.none)
    (due-first (g.T.Clock.moment c.args.turning.now.clock.now) c.args.connection.now.waiting c.args.op c.requires.due)) (
      some-of (λ call. IsNotOpen g.G.Gateway.rules c.args.gateway.now call) _ _ c.in-Ok-Some.field-0-is c.in-Ok-Some.ensures.fresh,
      some-of (λ call. g.G.Gateway.rules.opened c.begin.new.self call c.args.op c.args.gateway.now) _ _ c.in-Ok-Some.field-0-is c.in-Ok-Some.ensures.begun,
    )
    (c.put_only.ensures ∙ ap (λ (cs : List (OpenCall _)). cs ++ Open c.in-Ok-Some.call ∷ []) (sym c.requires.none)))
    (c.finish.ensures.asks input_now sent input first before (rw c.put_only.ensures
    (called g.G.Gateway.rules g.G.Gateway.order c.args.turning.now.overlap (g.T.Clock.moment c.args.turning.now.clock.now) input input_now first
    before c.args.gateway.now c.begin.new.self (sent ++ c.args.outbox.now) c.args.connection.now c.args.op
    c.in-Ok-Some.call c.requires.due
    (some-of (λ call. g.G.Gateway.rules.opened c.begin.new.self call c.args.op c.args.gateway.now) _ _
    c.in-Ok-Some.field-0-is c.in-Ok-Some.ensures.begun) c.begin.ensures.later
    (subst (λ (cs : List (OpenCall _)). ComesAtGateway g.G.Gateway.rules c.args.turning.now.overlap
    (g.T.Clock.moment c.args.turning.now.clock.now) input input_now first before c.args.gateway.now (sent ++ c.args.outbox.now)
    c.args.connection.now cs 0 None) c.requires.none come))))

pub returns-in-Ok-None-clause-asks : goal.returns-in-Ok-None-clause-asks
returns-in-Ok-None-clause-asks g c = λ input_now sent input first before come. rw (c.begin.ensures.full (cc)) (rw c.requires.wanted
    (asks-none g.G.Gateway.rules (g.T.Clock.moment c.args.turning.now.clock.now) sent
    (connection_at c.args.gateway.now c.args.connection.now c.args.calls.now.list 0 None
    (sent ++ c.args.outbox.now))))

pub returns-in-Err-clause-asks : goal.returns-in-Err-clause-asks
returns-in-Err-clause-asks g c = λ input_now sent input first before come. rw c.requires.wanted
    (wants-begin g.G.Gateway.rules (g.T.Clock.moment c.args.turning.now.clock.now) sent c.args.gateway.now c.begin.new.self
    c.args.connection.now c.args.calls.now.list c.args.calls.now.list (sent ++ c.args.outbox.now) c.args.op (soon sent c.args.outbox.now c.requires.short)
    (subst (λ (cs : List (OpenCall _)). IsDueAhead (g.T.Clock.moment c.args.turning.now.clock.now) c.args.connection.now.waiting
    (length cs) c.args.op) (sym c.requires.none)
    (due-first (g.T.Clock.moment c.args.turning.now.clock.now) c.args.connection.now.waiting c.args.op c.requires.due))
    (inr c.in-Err.ensures.want) refl)
