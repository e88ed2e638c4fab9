use Rattle.std.proofs.Common.{◌≡◌, ℕ, ◌<◌, true, slice_index_or}
use Rattle.ready_places.specs.Placed.{HasPlace}
use Rattle.ready_places.specs.Queue.{is_queued}
use Rattle.ready_worker.specs.Queued.{StayQueued}
use Rattle.ready_worker.specs.declared.notice.Notice.{Notice}
use Rattle.ready_worker.proofs.settling.queue_all.Given as goal

abbrev pub invariant-notices : goal.invariant-notices
invariant-notices g l = record {
  values : l.places.values ≡ l.initial.places.values;
  stay : StayQueued l.initial.places.queue l.places.queue;
  queued : (k : ℕ) (d : Notice) → k < l.notice-index → HasPlace l.places (slice_index_or l.notices k d).key
      → is_queued l.places.queue (slice_index_or l.notices k d).key ≡ true;
}
