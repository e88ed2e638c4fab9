use Rattle.std.proofs.Common.{◌≡◌, ◌≢◌, ◌<◌, ◌++◌, ◌⊎◌, inl, inr, None, drop, is_some, true, false, sym, ap, ◌∙◌}
use Rattle.ready_client.proofs.Asking.{asks-on, goes-or-waits}
use Rattle.ready_client.proofs.Calling.{lets-go, no-end, resumes}
use Rattle.ready_client.proofs.client.Client.step.Goals.{then-is_some-via-then-is_some, then-is_some-via-else-is_some+then-has_unwanted}
use Rattle.ready_client.proofs.client.Client.step.Goals as goal

pub returns-then-is_some-clause-comes : goal.returns-then-is_some-clause-comes
returns-then-is_some-clause-comes g c = λ input first before come. lets-go g.G.Gateway.rules g.G.Gateway.order
    c.args.overlap (g.T.Clock.moment c.args.clock.now) input (g.S.TryStream.input c.args.self.now.stream) first before
    c.args.gateway.now c.let_go.new.gateway _ c.args.self.now.connection
    c.args.self.now.calls.list c.let_go.new.self.list c.args.self.now.calls.unwanted c.let_go.new.self.unwanted
    c.args.self.now.end dropped c.let_go.ensures.fewer (c.let_go.ensures.distinct come.distinct)
    (c.let_go.ensures.others come.distinct) c.let_go.ensures.onward come
  where
    dropped : c.args.self.now.end ≡ None → drop c.let_go.new.self.unwanted c.let_go.new.self.list
        ≡ drop c.args.self.now.calls.unwanted c.args.self.now.calls.list
    dropped none = elim c.then-is_some.branch [
      | then-is_some-via-then-is_some w ↦ (let bad : true ≡ false = sym w.if-is_some.true ∙ c.is_some.ensures ∙ ap is_some none in absurd (cc bad))
      | then-is_some-via-else-is_some+then-has_unwanted w ↦ c.let_go.ensures.unwanted (w.has_unwanted.ensures.some w.if-has_unwanted.true)
    ]

pub returns-in-Ok-Waits-clause-comes : goal.returns-in-Ok-Waits-clause-comes
returns-in-Ok-Waits-clause-comes g c = λ input first before come. rw c.end_by-self.ensures (c.advance-result.ensures.comes input first before
    (resumes g.G.Gateway.rules g.G.Gateway.order c.args.overlap (g.T.Clock.moment c.args.clock.now) input
    (g.S.TryStream.input c.args.self.now.stream) first before c.args.gateway.now
    (g.S.TryStream.held c.args.self.now.stream ++ c.args.self.now.outbox) c.args.self.now.connection
    c.args.self.now.calls.list c.args.self.now.calls.unwanted c.args.self.now.end
    (c.has_unwanted.ensures.none c.if-has_unwanted.false) (no-end c.args.self.now.end (sym c.is_some.ensures ∙ c.if-is_some.false)) come))

pub returns-in_default : goal.returns-in_default
returns-in_default g c = record {
  comes = λ input first before come. rw c.end_by-self.ensures (c.advance-result.ensures.comes input first before
      (resumes g.G.Gateway.rules g.G.Gateway.order c.args.overlap (g.T.Clock.moment c.args.clock.now) input
      (g.S.TryStream.input c.args.self.now.stream) first before c.args.gateway.now
      (g.S.TryStream.held c.args.self.now.stream ++ c.args.self.now.outbox) c.args.self.now.connection
      c.args.self.now.calls.list c.args.self.now.calls.unwanted c.args.self.now.end
      (c.has_unwanted.ensures.none c.if-has_unwanted.false) (no-end c.args.self.now.end (sym c.is_some.ensures ∙ c.if-is_some.false)) come));
  asks = λ input first before come. let unwanted = c.has_unwanted.ensures.none c.if-has_unwanted.false in let goes =
      no-end c.args.self.now.end (sym c.is_some.ensures ∙ c.if-is_some.false) in rw c.end_by-self.ensures
      (asks-on g.G.Gateway.rules (g.T.Clock.moment c.args.clock.now) (g.S.TryStream.held c.args.self.now.stream) c.args.gateway.now c.args.self.now.connection
      c.args.self.now.calls.list c.args.self.now.calls.unwanted c.args.self.now.end
      (g.S.TryStream.held c.args.self.now.stream ++ c.args.self.now.outbox) _ unwanted goes
      (c.advance-result.ensures.asks input first before
      (resumes g.G.Gateway.rules g.G.Gateway.order c.args.overlap (g.T.Clock.moment c.args.clock.now) input
      (g.S.TryStream.input c.args.self.now.stream) first before c.args.gateway.now
      (g.S.TryStream.held c.args.self.now.stream ++ c.args.self.now.outbox) c.args.self.now.connection
      c.args.self.now.calls.list c.args.self.now.calls.unwanted c.args.self.now.end
      unwanted goes come)));
  apart = c.advance-result.ensures.apart;
  lends = c.advance-result.ensures.lends;
  onward = c.advance-result.ensures.onward;
  held = c.advance-result.ensures.held;
  later = c.advance-result.ensures.later;
  room = c.advance-result.ensures.room;
}

pub returns-in_default-2-clause-comes : goal.returns-in_default-2-clause-comes
returns-in_default-2-clause-comes g c = λ input first before come. rw c.end_by-self.ensures (c.advance-result.ensures.comes input first before
    (resumes g.G.Gateway.rules g.G.Gateway.order c.args.overlap (g.T.Clock.moment c.args.clock.now) input
    (g.S.TryStream.input c.args.self.now.stream) first before c.args.gateway.now
    (g.S.TryStream.held c.args.self.now.stream ++ c.args.self.now.outbox) c.args.self.now.connection
    c.args.self.now.calls.list c.args.self.now.calls.unwanted c.args.self.now.end
    (c.has_unwanted.ensures.none c.if-has_unwanted.false) (no-end c.args.self.now.end (sym c.is_some.ensures ∙ c.if-is_some.false)) come))

pub returns-then-is_some-clause-asks : goal.returns-then-is_some-clause-asks
returns-then-is_some-clause-asks g c = λ input first before come. goes-or-waits g.G.Gateway.rules
    (g.T.Clock.moment c.args.clock.now) (g.S.TryStream.held c.args.self.now.stream) c.args.gateway.now c.let_go.new.gateway c.args.self.now.connection
    c.args.self.now.calls c.let_go.new.self c.args.self.now.end
    (g.S.TryStream.held c.args.self.now.stream ++ c.args.self.now.outbox) c.let_go.result may c.let_go.ensures.gone c.let_go.ensures.still
  where
    may : (0 < c.args.self.now.calls.unwanted) ⊎ (c.args.self.now.end ≢ None)
    may = elim c.then-is_some.branch [
      | then-is_some-via-then-is_some w ↦ inr (λ none. let bad : true ≡ false = sym w.if-is_some.true ∙ c.is_some.ensures ∙ ap is_some none in absurd (cc bad))
      | then-is_some-via-else-is_some+then-has_unwanted w ↦ inl (w.has_unwanted.ensures.some w.if-has_unwanted.true)
    ]

pub returns-in-Ok-Waits-clause-asks : goal.returns-in-Ok-Waits-clause-asks
returns-in-Ok-Waits-clause-asks g c = λ input first before come. let unwanted =
    c.has_unwanted.ensures.none c.if-has_unwanted.false in let goes =
    no-end c.args.self.now.end (sym c.is_some.ensures ∙ c.if-is_some.false) in rw c.end_by-self.ensures
    (asks-on g.G.Gateway.rules (g.T.Clock.moment c.args.clock.now) (g.S.TryStream.held c.args.self.now.stream) c.args.gateway.now c.args.self.now.connection
    c.args.self.now.calls.list c.args.self.now.calls.unwanted c.args.self.now.end
    (g.S.TryStream.held c.args.self.now.stream ++ c.args.self.now.outbox) _ unwanted goes
    (c.advance-result.ensures.asks input first before
    (resumes g.G.Gateway.rules g.G.Gateway.order c.args.overlap (g.T.Clock.moment c.args.clock.now) input
    (g.S.TryStream.input c.args.self.now.stream) first before c.args.gateway.now
    (g.S.TryStream.held c.args.self.now.stream ++ c.args.self.now.outbox) c.args.self.now.connection
    c.args.self.now.calls.list c.args.self.now.calls.unwanted c.args.self.now.end
    unwanted goes come)))

pub returns-in_default-2-clause-asks : goal.returns-in_default-2-clause-asks
returns-in_default-2-clause-asks g c = λ input first before come. let unwanted =
    c.has_unwanted.ensures.none c.if-has_unwanted.false in let goes =
    no-end c.args.self.now.end (sym c.is_some.ensures ∙ c.if-is_some.false) in rw c.end_by-self.ensures
    (asks-on g.G.Gateway.rules (g.T.Clock.moment c.args.clock.now) (g.S.TryStream.held c.args.self.now.stream) c.args.gateway.now c.args.self.now.connection
    c.args.self.now.calls.list c.args.self.now.calls.unwanted c.args.self.now.end
    (g.S.TryStream.held c.args.self.now.stream ++ c.args.self.now.outbox) _ unwanted goes
    (c.advance-result.ensures.asks input first before
    (resumes g.G.Gateway.rules g.G.Gateway.order c.args.overlap (g.T.Clock.moment c.args.clock.now) input
    (g.S.TryStream.input c.args.self.now.stream) first before c.args.gateway.now
    (g.S.TryStream.held c.args.self.now.stream ++ c.args.self.now.outbox) c.args.self.now.connection
    c.args.self.now.calls.list c.args.self.now.calls.unwanted c.args.self.now.end
    unwanted goes come)))
