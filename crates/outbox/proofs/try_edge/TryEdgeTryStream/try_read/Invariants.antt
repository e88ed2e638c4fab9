use Rattle.std.proofs.Common.{◌≡◌, length}
use Rattle.std.specs.Io.KnownBytes.{Keeps}
use Rattle.outbox.proofs.try_edge.TryEdgeTryStream.try_read.Given as goal

abbrev pub invariant-tries : goal.invariant-tries
invariant-tries g l = record {
  kept : Keeps (g.X.Read.remaining l.initial.self.inner) (g.X.Read.remaining l.self.inner);
  faults : l.self.faults ≡ l.initial.self.faults;
  ended : l.self.ended ≡ l.initial.self.ended;
  past : l.self.incoming.bytes ≡ l.initial.self.incoming.bytes;
  sent : l.self.outgoing.bytes ≡ l.initial.self.outgoing.bytes;
  room : length l.into ≡ length l.initial.into;
}
