use Rattle.std.proofs.Common.{◌≡◌}
use Rattle.ready_worker.proofs.worker.Worker.wake_those.Given as goal

abbrev pub invariant-woken : goal.invariant-woken
invariant-woken g l = record {
  clock : l.self.clock ≡ l.initial.self.clock;
  overlap : l.self.overlap ≡ l.initial.self.overlap;
  values : l.self.places.values ≡ l.initial.self.places.values;
}
