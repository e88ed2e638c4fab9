use Rattle.std.proofs.Common.{◌≡◌}
use Rattle.slab.specs.Slab.{slab_len}
use Rattle.ready_worker.proofs.worker.Worker.take_in.Given as goal

abbrev pub invariant-streams : goal.invariant-streams
invariant-streams g l = (goal.iterator-streams g).can_next l.iterator' × (goal.iterator-streams g).is_finite l.iterator'
    × (l.self.clock ≡ l.initial.self.clock) × (l.self.overlap ≡ l.initial.self.overlap)
    × (l.initial.share ≡ slab_len l.initial.self.places.values → l.share ≡ slab_len l.self.places.values)
