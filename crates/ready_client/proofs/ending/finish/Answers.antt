use Rattle.std.proofs.Common.{◌++◌, List, subst, None}
use Rattle.ready_client.specs.Coming.{ComesAtGateway}
use Rattle.ready_client.specs.declared.open_call.OpenCall.{OpenCall}
use Rattle.ready_client.proofs.ending.finish.Goals as goal
use Rattle.ready_client.proofs.Asking.{asks-still, soon}

pub returns-in-Some-clause-comes : goal.returns-in-Some-clause-comes
returns-in-Some-clause-comes g c = λ input input_now first before sent come. let ended = c.in-Some.ensures.ended in
    c.settle.ensures.comes c.args.turning.now.overlap (g.T.Clock.moment c.args.turning.now.clock.now) input input_now first c.args.gateway.now
    c.take_end.new.gateway before sent ended.0 ended.1 (c.take_end.ensures.others come.distinct)
    c.take_end.ensures.onward
    (subst (λ (cs : List (OpenCall _)). ComesAtGateway g.G.Gateway.rules c.args.turning.now.overlap
    (g.T.Clock.moment c.args.turning.now.clock.now) input input_now first before c.args.gateway.now (sent ++ c.args.outbox.now)
    c.args.connection.now cs 0 None) ended.2 come)

pub returns-in-None-clause-comes : goal.returns-in-None-clause-comes
returns-in-None-clause-comes g c = λ input input_now first before sent come. let same = c.take_end.ensures.still (cc) in
    rw c.requires.wanted (c.go_ahead.ensures.comes input input_now first before (sent ++ c.args.outbox.now)
    (rw same.0 (rw same.1 come)))

pub returns-in-Some-clause-asks : goal.returns-in-Some-clause-asks
returns-in-Some-clause-asks g c = λ input_now sent input first before come. let ended = c.in-Some.ensures.ended in
    rw ended.2 (c.settle.ensures.asks c.args.turning.now.overlap (g.T.Clock.moment c.args.turning.now.clock.now) input_now c.args.gateway.now
    c.take_end.new.gateway sent ended.0 ended.1 input first before
    (subst (λ (cs : List (OpenCall _)). ComesAtGateway g.G.Gateway.rules c.args.turning.now.overlap
    (g.T.Clock.moment c.args.turning.now.clock.now) input input_now first before c.args.gateway.now (sent ++ c.args.outbox.now)
    c.args.connection.now cs 0 None) ended.2 come))

pub returns-in-None-clause-asks : goal.returns-in-None-clause-asks
returns-in-None-clause-asks g c = λ input_now sent input first before come. let same = c.take_end.ensures.still (cc) in rw c.requires.wanted
    (asks-still g.G.Gateway.rules (g.T.Clock.moment c.args.turning.now.clock.now) sent c.args.gateway.now c.take_end.new.gateway
    c.args.connection.now c.args.calls.now.list c.take_end.new.self (sent ++ c.args.outbox.now) _ same.0 same.1
    (c.go_ahead.ensures.asks sent (sent ++ c.args.outbox.now) (soon sent c.args.outbox.now c.requires.short)))
