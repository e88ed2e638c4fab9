use Rattle.std.proofs.Common.{◌≡◌, ◌+◌, ◌-◌, ◌≤◌, vec_len}
use Rattle.edge_io.specs.Moving.{Takes}
use Rattle.edge_io.proofs.reading.read_whole.Given as goal

abbrev pub invariant-pieces : goal.invariant-pieces
invariant-pieces g l = record {
  taken : Takes (g.S.Source.input l.initial.source) (g.S.Source.input l.source) l.bytes.items;
  room : vec_len l.piece ≡ 65536;
  within : vec_len l.bytes ≤ l.initial.most + 1;
  later : g.S.Source.faults l.initial.source ≤ g.S.Source.faults l.source;
}

abbrev pub decreases-pieces : goal.decreases-pieces
decreases-pieces g l = l.initial.most + 1 - vec_len l.bytes
