use Rattle.std.proofs.Common.{◌≡◌, ◌-◌, ◌≤◌, length, take}
use Rattle.edge_io.specs.Moving.{Appends}
use Rattle.outbox.proofs.front.send.Given as goal

abbrev pub invariant-pieces : goal.invariant-pieces
invariant-pieces g l = record {
  sends : Appends (g.S.TryStream.held l.initial.stream) (g.S.TryStream.held l.stream) (take l.sent l.bytes);
  within : l.sent ≤ length l.bytes;
  input : g.S.TryStream.input l.stream ≡ g.S.TryStream.input l.initial.stream;
  later : g.S.TryStream.faults l.initial.stream ≤ g.S.TryStream.faults l.stream;
}

abbrev pub decreases-pieces : goal.decreases-pieces
decreases-pieces g l = length l.bytes - l.sent
