use Rattle.std.proofs.Common.{◌-◌, ◌≤◌, length, take}
use Rattle.edge_io.specs.Moving.{Appends}
use Rattle.edge_io.proofs.writing.write_all.Given as goal

abbrev pub invariant-pieces : goal.invariant-pieces
invariant-pieces g l = record {
  written : Appends (g.K.Sink.held l.initial.sink) (g.K.Sink.held l.sink) (take l.done l.text);
  within : l.done ≤ length l.text;
  later : g.K.Sink.faults l.initial.sink ≤ g.K.Sink.faults l.sink;
}

abbrev pub decreases-pieces : goal.decreases-pieces
decreases-pieces g l = length l.text - l.done
