use Rattle.std.proofs.Common.{ℕ, Option, IfSome, ap, subst, sym, ◌∙◌}
use Rattle.front_end.specs.declared.overlap.Overlap.{Overlap}
use Rattle.ready_places.specs.Queue.{first_of}
use Rattle.ready_worker.specs.Come.{ClientComes}
use Rattle.ready_worker.proofs.Placing.{apart-from, settled-from, settled-gone}
use Rattle.ready_worker.proofs.Queueing.{head-stands, more-settled}
use Rattle.ready_worker.proofs.worker.Worker.serve_first.Goals as goal

pub serve_one-turn-requires-clause-queued : goal.serve_one-turn-requires-clause-queued
serve_one-turn-requires-clause-queued g c = λ lifetimes within. head-stands c.args.self.now.places.queue c.in_ok-key.key (sym c.in_ok-key.ensures.first)

pub settle-requires-clause-first : goal.settle-requires-clause-first
settle-requires-clause-first g c = ap first_of c.serve_one-turn.ensures.queue ∙ sym c.in_ok-key.ensures.first

pub invariant_of-self : goal.invariant_of-self
invariant_of-self g c =
    let from = settled-from c.serve_one-turn.new.self.places c.settle.new.places c.in_ok-key.key c.serve_one-turn.result
    c.settle.ensures.more c.settle.ensures.waits c.settle.ensures.over in record {
      full = c.serve_one-turn.new.self.full;
      come = λ key there at. c.serve_one-turn.new.self.come key there (from key there at);
      apart = apart-from c.serve_one-turn.new.self.places c.settle.new.places from c.serve_one-turn.new.self.apart;
      more = more-settled c.serve_one-turn.new.self.places c.settle.new.places c.in_ok-key.key c.serve_one-turn.result
          (ap first_of c.serve_one-turn.ensures.queue ∙ sym c.in_ok-key.ensures.first) c.serve_one-turn.ensures.more
          c.settle.ensures.more
          c.settle.ensures.waits c.settle.ensures.over c.settle.ensures.queue c.serve_one-turn.new.self.more;
    }

pub returns-clause-come : goal.returns-clause-come
returns-clause-come g c =
    subst (λ (overlap : Overlap). IfSome c.settle.result
    (ClientComes g.G.Gateway.rules overlap (g.T.Clock.moment c.args.self.now.clock.now)
    c.serve_one-turn.new.self.gateway)) c.serve_one-turn.ensures.overlap
    (subst (λ (told : Option ℕ). IfSome c.settle.result (ClientComes g.G.Gateway.rules c.serve_one-turn.new.self.overlap
    told c.serve_one-turn.new.self.gateway)) (ap (λ clock. g.T.Clock.moment clock.now) c.serve_one-turn.ensures.clock)
    (settled-gone (ClientComes g.G.Gateway.rules c.serve_one-turn.new.self.overlap
    (g.T.Clock.moment c.serve_one-turn.new.self.clock.now) c.serve_one-turn.new.self.gateway)
    c.serve_one-turn.new.self.places c.in_ok-key.key c.serve_one-turn.result c.settle.result
    c.settle.ensures.stays c.settle.ensures.gone c.serve_one-turn.new.self.come))
