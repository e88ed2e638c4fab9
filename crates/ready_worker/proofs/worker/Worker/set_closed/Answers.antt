use Rattle.ready_worker.proofs.Coming.{come-between}
use Rattle.ready_worker.proofs.worker.Worker.set_closed.Goals as goal

pub invariant_of-self : goal.invariant_of-self
invariant_of-self g c = record {
  full = c.args.self.now.full;
  come = come-between g.G.Gateway.rules c.args.self.now.overlap (g.T.Clock.moment c.args.self.now.clock.now)
      g.G.Gateway.order c.args.self.now.gateway c.set_closed.new.self c.args.self.now.places c.set_closed.ensures.open
      c.set_closed.ensures.later c.args.self.now.come;
  apart = c.args.self.now.apart;
  more = c.args.self.now.more;
}
