use Rattle.std.proofs.Common.{◌-◌, ◌≤◌}
use Rattle.wire_frames.proofs.Going.{GoesOn}
use Rattle.wire_frames.proofs.listing.list_pieces.Given as goal

abbrev pub invariant-pieces : goal.invariant-pieces
invariant-pieces g l = record {
  goes : GoesOn (g.S.Source.input l.initial.source) (g.S.Source.input l.source) (g.K.Sink.held l.initial.sink) (g.K.Sink.held l.sink) l.decoder l.count;
  within : l.count ≤ 4611686018427387904;
  read_later : g.S.Source.faults l.initial.source ≤ g.S.Source.faults l.source;
  written_later : g.K.Sink.faults l.initial.sink ≤ g.K.Sink.faults l.sink;
}

abbrev pub decreases-pieces : goal.decreases-pieces
decreases-pieces g l = 4611686018427387904 - l.count
