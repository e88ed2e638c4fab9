use Rattle.std.proofs.Common.{◌≡◌}
use Rattle.std.specs.Io.KnownBytes.{Keeps}
use Rattle.outbox.proofs.try_edge.TryEdgeTryStream.try_write.Given as goal

abbrev pub invariant-tries : goal.invariant-tries
invariant-tries g l = record {
  kept : Keeps (g.X.Write.contents l.initial.self.inner) (g.X.Write.contents l.self.inner);
  faults : l.self.faults ≡ l.initial.self.faults;
  read : l.self.incoming.bytes ≡ l.initial.self.incoming.bytes;
  ended : l.self.ended ≡ l.initial.self.ended;
  past : l.self.outgoing.bytes ≡ l.initial.self.outgoing.bytes;
}
