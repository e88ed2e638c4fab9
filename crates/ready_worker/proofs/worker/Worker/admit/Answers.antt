use Rattle.std.proofs.Common.{[]}
use Rattle.ready_worker.specs.Come.{ClientComes, unread}
use Rattle.ready_worker.proofs.Coming.{fresh}
use Rattle.ready_worker.proofs.Placing.{apart-put, each-put}
use Rattle.ready_worker.proofs.Queueing.{more-put}
use Rattle.ready_worker.proofs.worker.Worker.admit.Goals as goal

pub invariant_of-self : goal.invariant_of-self
invariant_of-self g c = record {
  full = c.args.self.now.full;
  come = each-put (ClientComes g.G.Gateway.rules c.args.self.now.overlap (g.T.Clock.moment c.args.self.now.clock.now)
      c.args.self.now.gateway) c.args.self.now.places c.insert.new.self c.new-client.result c.insert.result
      c.insert.ensures.placed c.insert.ensures.want new_client c.args.self.now.come;
  apart = apart-put c.args.self.now.places c.insert.new.self c.new-client.result c.insert.result c.insert.ensures.placed
      c.insert.ensures.want c.new-client.ensures.calls c.args.self.now.apart;
  more = more-put c.args.self.now.places c.insert.new.self c.new-client.result c.insert.result c.insert.ensures.placed
      c.insert.ensures.want c.insert.ensures.queue c.new-client.ensures.last c.args.self.now.more;
}
  where
    new_client : ClientComes g.G.Gateway.rules c.args.self.now.overlap (g.T.Clock.moment c.args.self.now.clock.now) c.args.self.now.gateway c.new-client.result
    new_client = fresh g.G.Gateway.rules c.args.self.now.overlap (g.T.Clock.moment c.args.self.now.clock.now)
        c.args.self.now.gateway c.new-client.result c.told.result c.new-client.ensures.stream c.told.ensures.unread.0
        c.told.ensures.unread.1 c.told.ensures.fresh
        c.new-client.ensures.outbox c.new-client.ensures.calls c.new-client.ensures.unwanted c.new-client.ensures.end
        (c.begins.ensures c.args.self.now.overlap (g.T.Clock.moment c.args.self.now.clock.now) unread
        c.args.self.now.gateway [] c.new-client.result.connection c.new-client.ensures.kept
        c.new-client.ensures.waiting c.new-client.ensures.count)
