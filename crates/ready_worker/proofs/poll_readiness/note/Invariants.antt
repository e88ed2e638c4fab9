use Rattle.std.proofs.Common.{◌≡◌, ◌+◌, ◌≤◌, ◌++◌, length, map, vec_len, vec_capacity}
use Rattle.std.specs.Slice.Iter.{iter_rest}
use Rattle.mio.specs.Events.{items}
use Rattle.ready_worker.specs.Noticed.{notice_of}
use Rattle.ready_worker.proofs.poll_readiness.note.Given as goal

abbrev pub invariant-events : goal.invariant-events
invariant-events l = record {
  notices : l.notices.items ++ map notice_of (iter_rest l.event-iterator) ≡ map notice_of (items l.events);
  room : vec_len l.notices + length (iter_rest l.event-iterator) ≤ vec_capacity l.notices;
  more : vec_capacity l.initial.notices ≤ vec_capacity l.notices;
}
