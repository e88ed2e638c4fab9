use Rattle.std.proofs.Common.{◌++◌, ◌∙◌, arith, refl}
use Rattle.ready_client.specs.Asking.{connection_at}
use Rattle.ready_client.proofs.Asking.{asks-as, asks-none, asks-sent, asks-then}
use Rattle.ready_client.proofs.Calling.{sends}
use Rattle.ready_client.proofs.Keeping.{apart-then, lends-then}
use Rattle.ready_client.proofs.client.Client.run.Goals as goal

pub steps-init : goal.steps-init
steps-init g c = record {
  comes = λ input first before come. come;
  asks = λ input first before come. asks-none g.G.Gateway.rules (g.T.Clock.moment c.args.clock.now) (g.S.TryStream.held c.args.self.now.stream)
      (connection_at c.args.gateway.now c.args.self.now.connection c.args.self.now.calls.list
      c.args.self.now.calls.unwanted c.args.self.now.end (g.S.TryStream.held c.args.self.now.stream
      ++ c.args.self.now.outbox));
  apart = λ call op began other opened. (opened, other);
  lends = λ call other lent. (lent, other);
  onward = g.G.Gateway.order.same c.args.gateway.now;
  held = refl;
  later = omega arith;
  room = c.requires.room;
}

pub steps-preserved : goal.steps-preserved
steps-preserved g c = record {
  comes = λ input first before come. c.step.ensures.comes input first before (c.steps.invariant.comes input first before come);
  asks = λ input first before come. asks-then g.G.Gateway.rules (g.T.Clock.moment c.args.clock.now) (g.S.TryStream.held c.args.self.now.stream)
      (connection_at c.args.gateway.now c.args.self.now.connection c.args.self.now.calls.list
      c.args.self.now.calls.unwanted c.args.self.now.end (g.S.TryStream.held c.args.self.now.stream
      ++ c.args.self.now.outbox))
      (connection_at c.steps.gateway c.steps.self.connection c.steps.self.calls.list c.steps.self.calls.unwanted
      c.steps.self.end (g.S.TryStream.held c.steps.self.stream ++ c.steps.self.outbox))
      (connection_at c.step.new.gateway c.step.new.self.connection c.step.new.self.calls.list
      c.step.new.self.calls.unwanted c.step.new.self.end (g.S.TryStream.held c.step.new.self.stream
      ++ c.step.new.self.outbox))
      (c.steps.invariant.asks input first before come) (asks-sent g.G.Gateway.rules (g.T.Clock.moment c.args.clock.now)
      (g.S.TryStream.held c.args.self.now.stream) _ _ _ c.steps.invariant.held
      (c.step.ensures.asks input first before (c.steps.invariant.comes input first before come)));
  apart = apart-then g.G.Gateway.rules c.args.self.now.calls.list c.steps.self.calls.list c.step.new.self.calls.list
      c.args.gateway.now c.steps.gateway c.step.new.gateway c.steps.invariant.apart c.step.ensures.apart;
  lends = lends-then g.G.Gateway.rules c.args.self.now.calls.list c.steps.self.calls.list c.step.new.self.calls.list
      c.args.gateway.now c.steps.gateway c.step.new.gateway c.steps.invariant.lends c.step.ensures.lends;
  onward = g.G.Gateway.order.on c.args.gateway.now c.steps.gateway _ c.steps.invariant.onward c.step.ensures.onward;
  held = c.step.ensures.held ∙ c.steps.invariant.held;
  later = omega (arith, c.steps.invariant.later, c.step.ensures.later);
  room = c.step.ensures.room;
}

pub returns-clause-comes : goal.returns-clause-comes
returns-clause-comes g c = λ input first before come. sends g.G.Gateway.rules c.args.overlap
    (g.T.Clock.moment c.args.clock.now) input (g.S.TryStream.input c.steps.self.stream)
    (g.S.TryStream.input c.send-2.new.self.stream) first c.steps.gateway before (g.S.TryStream.held c.steps.self.stream
    ++ c.steps.self.outbox) (g.S.TryStream.held c.send-2.new.self.stream ++ c.send-2.new.self.outbox)
    c.steps.self.connection c.send-2.new.self.connection c.steps.self.calls c.send-2.new.self.calls c.steps.self.end
    c.send-2.new.self.end
    c.send-2.ensures.text c.send-2.ensures.input c.send-2.ensures.connection c.send-2.ensures.calls c.send-2.ensures.end
    (c.steps.invariant.comes input first before come)

pub returns-then-is_empty-clause-comes : goal.returns-then-is_empty-clause-comes
returns-then-is_empty-clause-comes g c = λ input first before come. sends g.G.Gateway.rules c.args.overlap
    (g.T.Clock.moment c.args.clock.now) input (g.S.TryStream.input c.steps.self.stream)
    (g.S.TryStream.input c.send.new.self.stream) first c.steps.gateway before (g.S.TryStream.held c.steps.self.stream
    ++ c.steps.self.outbox) (g.S.TryStream.held c.send.new.self.stream ++ c.send.new.self.outbox)
    c.steps.self.connection c.send.new.self.connection c.steps.self.calls c.send.new.self.calls c.steps.self.end
    c.send.new.self.end
    c.send.ensures.text c.send.ensures.input c.send.ensures.connection c.send.ensures.calls c.send.ensures.end
    (c.steps.invariant.comes input first before come)

pub returns-then-step-clause-comes : goal.returns-then-step-clause-comes
returns-then-step-clause-comes g c = λ input first before come. sends g.G.Gateway.rules c.args.overlap
    (g.T.Clock.moment c.args.clock.now) input (g.S.TryStream.input c.step.new.self.stream)
    (g.S.TryStream.input c.send-then-step.new.self.stream) first c.step.new.gateway before
    (g.S.TryStream.held c.step.new.self.stream ++ c.step.new.self.outbox)
    (g.S.TryStream.held c.send-then-step.new.self.stream ++ c.send-then-step.new.self.outbox) c.step.new.self.connection
    c.send-then-step.new.self.connection c.step.new.self.calls c.send-then-step.new.self.calls c.step.new.self.end
    c.send-then-step.new.self.end
    c.send-then-step.ensures.text c.send-then-step.ensures.input c.send-then-step.ensures.connection c.send-then-step.ensures.calls c.send-then-step.ensures.end
    (c.step.ensures.comes input first before (c.steps.invariant.comes input first before come))

pub returns-clause-asks : goal.returns-clause-asks
returns-clause-asks g c = λ input first before come. asks-as g.G.Gateway.rules (g.T.Clock.moment c.args.clock.now) (g.S.TryStream.held c.args.self.now.stream)
    (connection_at c.args.gateway.now c.args.self.now.connection c.args.self.now.calls.list
    c.args.self.now.calls.unwanted c.args.self.now.end (g.S.TryStream.held c.args.self.now.stream
    ++ c.args.self.now.outbox)) c.steps.gateway c.steps.self.connection c.send-2.new.self.connection c.steps.self.calls
    c.send-2.new.self.calls c.steps.self.end c.send-2.new.self.end
    (g.S.TryStream.held c.steps.self.stream ++ c.steps.self.outbox) (g.S.TryStream.held c.send-2.new.self.stream
    ++ c.send-2.new.self.outbox) c.send-2.ensures.text c.send-2.ensures.connection c.send-2.ensures.calls
    c.send-2.ensures.end
    (c.steps.invariant.asks input first before come)

pub returns-then-is_empty-clause-asks : goal.returns-then-is_empty-clause-asks
returns-then-is_empty-clause-asks g c = λ input first before come. asks-as g.G.Gateway.rules
    (g.T.Clock.moment c.args.clock.now) (g.S.TryStream.held c.args.self.now.stream)
    (connection_at c.args.gateway.now c.args.self.now.connection c.args.self.now.calls.list
    c.args.self.now.calls.unwanted c.args.self.now.end (g.S.TryStream.held c.args.self.now.stream
    ++ c.args.self.now.outbox)) c.steps.gateway c.steps.self.connection c.send.new.self.connection c.steps.self.calls
    c.send.new.self.calls c.steps.self.end c.send.new.self.end
    (g.S.TryStream.held c.steps.self.stream ++ c.steps.self.outbox) (g.S.TryStream.held c.send.new.self.stream
    ++ c.send.new.self.outbox) c.send.ensures.text c.send.ensures.connection c.send.ensures.calls c.send.ensures.end
    (c.steps.invariant.asks input first before come)

pub returns-then-step-clause-asks : goal.returns-then-step-clause-asks
returns-then-step-clause-asks g c = λ input first before come. asks-as g.G.Gateway.rules
    (g.T.Clock.moment c.args.clock.now) (g.S.TryStream.held c.args.self.now.stream)
    (connection_at c.args.gateway.now c.args.self.now.connection c.args.self.now.calls.list
    c.args.self.now.calls.unwanted c.args.self.now.end (g.S.TryStream.held c.args.self.now.stream
    ++ c.args.self.now.outbox)) c.step.new.gateway c.step.new.self.connection c.send-then-step.new.self.connection
    c.step.new.self.calls c.send-then-step.new.self.calls c.step.new.self.end c.send-then-step.new.self.end
    (g.S.TryStream.held c.step.new.self.stream ++ c.step.new.self.outbox)
    (g.S.TryStream.held c.send-then-step.new.self.stream ++ c.send-then-step.new.self.outbox)
    c.send-then-step.ensures.text c.send-then-step.ensures.connection c.send-then-step.ensures.calls
    c.send-then-step.ensures.end
    (asks-then g.G.Gateway.rules (g.T.Clock.moment c.args.clock.now) (g.S.TryStream.held c.args.self.now.stream)
    (connection_at c.args.gateway.now c.args.self.now.connection c.args.self.now.calls.list
    c.args.self.now.calls.unwanted c.args.self.now.end (g.S.TryStream.held c.args.self.now.stream
    ++ c.args.self.now.outbox))
    (connection_at c.steps.gateway c.steps.self.connection c.steps.self.calls.list c.steps.self.calls.unwanted
    c.steps.self.end (g.S.TryStream.held c.steps.self.stream ++ c.steps.self.outbox))
    (connection_at c.step.new.gateway c.step.new.self.connection c.step.new.self.calls.list
    c.step.new.self.calls.unwanted c.step.new.self.end (g.S.TryStream.held c.step.new.self.stream
    ++ c.step.new.self.outbox))
    (c.steps.invariant.asks input first before come) (asks-sent g.G.Gateway.rules (g.T.Clock.moment c.args.clock.now)
    (g.S.TryStream.held c.args.self.now.stream) _ _ _ c.steps.invariant.held
    (c.step.ensures.asks input first before (c.steps.invariant.comes input first before come))))
