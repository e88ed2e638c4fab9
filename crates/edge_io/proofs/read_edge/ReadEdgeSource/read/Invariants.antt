use Rattle.std.proofs.Common.{◌≡◌}
use Rattle.std.specs.Io.KnownBytes.{Keeps}
use Rattle.edge_io.proofs.read_edge.ReadEdgeSource.read.Given as goal

abbrev pub invariant-tries : goal.invariant-tries
invariant-tries g l = record {
  kept : Keeps (g.R.Read.remaining l.initial.self.inner) (g.R.Read.remaining l.self.inner);
  faults : l.self.faults ≡ l.initial.self.faults;
  ended : l.self.ended ≡ l.initial.self.ended;
  past : l.self.past.bytes ≡ l.initial.self.past.bytes;
}
