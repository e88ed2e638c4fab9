use Rattle.std.proofs.Common.{◌≡◌}
use Rattle.slab.specs.Slab.{slab_len}
use Rattle.ready_worker.proofs.worker.Worker.run.Given as goal

abbrev pub invariant-rounds : goal.invariant-rounds
invariant-rounds g l = (goal.iterator-rounds g).can_next l.iterator' × (goal.iterator-rounds g).is_finite l.iterator'
    × (l.self.clock ≡ l.initial.self.clock) × (l.self.overlap ≡ l.initial.self.overlap)
    × (slab_len l.initial.self.places.values ≡ 0 → l.share ≡ slab_len l.self.places.values)
