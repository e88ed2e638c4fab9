use Rattle.std.proofs.Common.{[], sym}
use Rattle.std.proofs.Math.Logic.{∥∥₁_map}
use Rattle.ready_worker.specs.Come.{unread}
use Rattle.ready_worker.proofs.Placing.{apart-served, come-served, served-over}
use Rattle.ready_worker.proofs.Queueing.{more-served}
use Rattle.ready_worker.proofs.worker.Worker.serve_one.Goals as goal

pub invariant_of-self : goal.invariant_of-self
invariant_of-self g c = record {
  full = c.begin_turn.new.self.full;
  come = come-served g.G.Gateway.rules c.begin_turn.new.self.overlap (g.T.Clock.moment c.begin_turn.new.self.clock.now)
      c.begin_turn.new.self.gateway c.turn-turn.new.gateway c.begin_turn.new.self.places c.args.key c.in-Some.client.now
      c.turn-turn.new.self
      g.G.Gateway.order (sym c.in-Some.ensures.value) (rw c.begin_turn.ensures.places c.requires.place)
      c.turn-turn.ensures.onward c.turn-turn.ensures.apart c.begin_turn.new.self.apart
      (∥∥₁_map (c.begin_turn.new.self.come c.args.key c.in-Some.client.now (sym c.in-Some.ensures.value))
      (λ found. (found.0, c.turn-turn.ensures.comes unread found.0 [] found.1))) c.begin_turn.new.self.come;
  apart = apart-served g.G.Gateway.rules c.begin_turn.new.self.overlap
      (g.T.Clock.moment c.begin_turn.new.self.clock.now) c.begin_turn.new.self.gateway c.turn-turn.new.gateway
      c.begin_turn.new.self.places c.args.key c.in-Some.client.now c.turn-turn.new.self
      (sym c.in-Some.ensures.value) (rw c.begin_turn.ensures.places c.requires.place) c.turn-turn.ensures.apart
      c.begin_turn.new.self.come c.begin_turn.new.self.apart;
  more = more-served c.begin_turn.new.self.places c.args.key c.turn-turn.new.self
      (rw c.begin_turn.ensures.places c.requires.place) (rw c.begin_turn.ensures.places c.requires.queued)
      c.begin_turn.new.self.more;
}

pub returns-in-Some-clause-over : goal.returns-in-Some-clause-over
returns-in-Some-clause-over g c over = served-over c.begin_turn.new.self.places c.args.key
    c.in-Some.client.now.stream.faults c.turn-turn.new.self c.has_calls.result
    (rw c.begin_turn.ensures.places c.requires.place)
    (c.with_call.ensures.over over).1 c.has_calls.ensures.1 (c.turn-turn.ensures.over (c.with_call.ensures.over over).0)
