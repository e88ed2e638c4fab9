use Rattle.std.proofs.Common.{◌+◌, ◌≤◌, length, vec_len, vec_capacity}
use Rattle.std.specs.Slice.Iter.{iter_rest}
use Rattle.member_serve.proofs.noting.note_others.Given as goal

abbrev pub invariant-events : goal.invariant-events
invariant-events l = record {
  room : vec_len l.others + length (iter_rest l.event-iterator) ≤ vec_capacity l.others;
  more : vec_capacity l.initial.others ≤ vec_capacity l.others;
}
