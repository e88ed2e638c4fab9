use Rattle.std.proofs.Common.{◌≡◌}
use Rattle.std.specs.Io.KnownBytes.{Keeps}
use Rattle.edge_io.proofs.write_edge.WriteEdgeSink.write.Given as goal

abbrev pub invariant-tries : goal.invariant-tries
invariant-tries g l = record {
  kept : Keeps (g.W.Write.contents l.initial.self.inner) (g.W.Write.contents l.self.inner);
  faults : l.self.faults ≡ l.initial.self.faults;
  past : l.self.past.bytes ≡ l.initial.self.past.bytes;
}
