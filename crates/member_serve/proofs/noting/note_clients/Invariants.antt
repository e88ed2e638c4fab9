use Rattle.std.proofs.Common.{◌+◌, ◌≤◌, length, vec_len, vec_capacity}
use Rattle.std.specs.Slice.Iter.{iter_rest}
use Rattle.member_serve.proofs.noting.note_clients.Given as goal

abbrev pub invariant-events : goal.invariant-events
invariant-events l = record {
  room : vec_len l.notices + length (iter_rest l.event-iterator) ≤ vec_capacity l.notices;
  more : vec_capacity l.initial.notices ≤ vec_capacity l.notices;
}
