use Rattle.front_end.specs.Ahead.{IsDueAhead}
use Rattle.front_end.specs.declared.overlap.Overlap.TheVariants.{OtherKeys}
use Rattle.ready_client.proofs.Calling.{some-of, wants-first}
use Rattle.ready_client.proofs.ahead.begin_further.Goals as goal
use Rattle.std.proofs.Common.{None}
use Rattle.ready_client.specs.Asking.{connection_at}
use Rattle.ready_client.proofs.Asking.{asks-none, wants-none}

pub returns-in-Ok-Some-clause-comes : goal.returns-in-Ok-Some-clause-comes
returns-in-Ok-Some-clause-comes g c = λ input input_now first before held come. c.begin_behind.ensures.comes
    _ input input_now first before held c.args.connection.now
    (rw (← c.len-begun.ensures)
    (some-of (IsDueAhead (g.T.Clock.moment c.args.clock.now) c.args.connection.now.waiting c.len-begun.result)
    c.in-Ok-Some.field-0 c.in-Ok-Some.op c.in-Ok-Some.field-0-is c.in-Ok-Some.ensures.due)) c.requires.waiting come

pub returns-in-Err-clause-comes : goal.returns-in-Err-clause-comes
returns-in-Err-clause-comes g c = λ input input_now first before held come. wants-first g.G.Gateway.rules
    g.G.Gateway.order OtherKeys _ input input_now first before c.args.gateway.now c.args.gateway.now held
    c.args.connection.now c.args.calls.now 0
    c.requires.waiting (g.G.Gateway.order.same c.args.gateway.now) come.opened come.distinct come

pub returns-in-Ok-Some-clause-asks : goal.returns-in-Ok-Some-clause-asks
returns-in-Ok-Some-clause-asks g c = λ sent held short. c.begin_behind.ensures.asks _ c.args.connection.now sent held short
    (rw (← c.len-begun.ensures)
    (some-of (IsDueAhead (g.T.Clock.moment c.args.clock.now) c.args.connection.now.waiting c.len-begun.result)
    c.in-Ok-Some.field-0 c.in-Ok-Some.op c.in-Ok-Some.field-0-is c.in-Ok-Some.ensures.due))

pub returns-in-Ok-None-clause-asks : goal.returns-in-Ok-None-clause-asks
returns-in-Ok-None-clause-asks g c = λ sent held short. asks-none g.G.Gateway.rules _ sent
    (connection_at c.args.gateway.now c.args.connection.now c.args.calls.now 0 None held)

pub returns-in-Err-clause-asks : goal.returns-in-Err-clause-asks
returns-in-Err-clause-asks g c = λ sent held short. wants-none g.G.Gateway.rules _ sent c.args.gateway.now c.args.connection.now c.args.calls.now held short
