use Rattle.std.proofs.Common.{◌≡◌, ◌≤◌}
use Rattle.slab.specs.Slab.{slab_len}
use Rattle.ready_worker.proofs.worker.Worker.serve.Given as goal

abbrev pub invariant-queue : goal.invariant-queue
invariant-queue g l = record {
  clock : l.self.clock ≡ l.initial.self.clock;
  overlap : l.self.overlap ≡ l.initial.self.overlap;
  fewer : slab_len l.self.places.values ≤ slab_len l.initial.self.places.values;
}
