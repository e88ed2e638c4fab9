use Rattle.ready_client.proofs.Calling.{reads}
use Rattle.ready_client.proofs.step.advance.Goals as goal
use Rattle.std.proofs.Common.{◌++◌, ◌≤◌, length, arith}
use Rattle.ready_client.proofs.Asking.{read-idle, reads-one, soon}

pub returns-then-has_waiting-clause-comes : goal.returns-then-has_waiting-clause-comes
returns-then-has_waiting-clause-comes g c = λ input first before come. c.answer.ensures.comes input
    (g.S.TryStream.input c.args.stream.now) first before (g.S.TryStream.held c.args.stream.now) come

pub returns-else-has_waiting-clause-comes : goal.returns-else-has_waiting-clause-comes
returns-else-has_waiting-clause-comes g c = λ input first before come. rw c.requires.wanted
    (reads g.G.Gateway.rules g.G.Gateway.order c.args.turning.now.overlap (g.T.Clock.moment c.args.turning.now.clock.now) input
    (g.S.TryStream.input c.args.stream.now) first before c.args.gateway.now (g.S.TryStream.input c.read.new.stream) _
    _ c.args.connection.now c.read.new.connection c.args.calls.now.list _
    (c.has_waiting.ensures.none c.if-has_waiting.false)
    (λ ends. c.read.ensures.comes c.args.turning.now.overlap (g.T.Clock.moment c.args.turning.now.clock.now) input first ends before) come)

pub returns-then-has_waiting-clause-asks : goal.returns-then-has_waiting-clause-asks
returns-then-has_waiting-clause-asks g c = λ input first before come. c.answer.ensures.asks
    (g.S.TryStream.input c.args.stream.now) (g.S.TryStream.held c.args.stream.now) input first before come

pub returns-else-has_waiting-clause-asks : goal.returns-else-has_waiting-clause-asks
returns-else-has_waiting-clause-asks g c = λ input first before come. let few : length c.args.outbox.now ≤ 262144 =
    omega (arith, c.len.ensures, c.if-len-gt-MOST_UNSENT.false) in let none =
    c.has_waiting.ensures.none c.if-has_waiting.false in rw c.requires.wanted
    (reads-one g.G.Gateway.rules (g.T.Clock.moment c.args.turning.now.clock.now) (g.S.TryStream.held c.args.stream.now)
    c.args.gateway.now c.args.connection.now c.read.new.connection c.args.calls.now.list _
    (g.S.TryStream.held c.args.stream.now ++ c.args.outbox.now) (g.S.TryStream.held c.read.new.stream ++ c.read.new.outbox) (soon _ _ few) none
    (c.read.ensures.closes (read-idle g.G.Gateway.rules g.G.Gateway.order c.args.turning.now.overlap
    (g.T.Clock.moment c.args.turning.now.clock.now) input (g.S.TryStream.input c.args.stream.now) first c.args.gateway.now before
    (g.S.TryStream.held c.args.stream.now ++ c.args.outbox.now) c.args.connection.now c.args.calls.now.list none
    come)))

pub returns-then-len-gt-MOST_UNSENT-clause-comes : goal.returns-then-len-gt-MOST_UNSENT-clause-comes
returns-then-len-gt-MOST_UNSENT-clause-comes g c = λ input first before come. c.take_begun.ensures.comes c.args.turning.now.overlap
    (g.T.Clock.moment c.args.turning.now.clock.now) input (g.S.TryStream.input c.args.stream.now) first before
    (g.S.TryStream.held c.args.stream.now) come

pub returns-then-len-gt-MOST_UNSENT-clause-asks : goal.returns-then-len-gt-MOST_UNSENT-clause-asks
returns-then-len-gt-MOST_UNSENT-clause-asks g c = λ input first before come. c.take_begun.ensures.asks c.args.turning.now.overlap
    (g.T.Clock.moment c.args.turning.now.clock.now) (g.S.TryStream.input c.args.stream.now)
    (g.S.TryStream.held c.args.stream.now) input first before come
