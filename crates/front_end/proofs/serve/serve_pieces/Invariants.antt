use Rattle.std.proofs.Common.{◌≡◌, ◌-◌, ◌≤◌, []}
use Rattle.front_end.specs.Answers.{stand}
use Rattle.front_end.specs.Going.{ConnectionGoesOn}
use Rattle.front_end.proofs.serve.serve_pieces.Given as goal

abbrev pub invariant-pieces : goal.invariant-pieces
invariant-pieces g l = record {
  goes : ConnectionGoesOn g.C.Caller.ways (g.T.Clock.moment l.clock) (g.S.Source.input l.initial.source)
      (g.S.Source.input l.source) (stand l.initial.caller (g.K.Sink.held l.initial.sink))
      (stand l.caller (g.K.Sink.held l.sink)) l.connection.kept l.connection.count;
  idle : l.connection.waiting ≡ [];
  within : l.connection.count ≤ 4611686018427387904;
  read_later : g.S.Source.faults l.initial.source ≤ g.S.Source.faults l.source;
  written_later : g.K.Sink.faults l.initial.sink ≤ g.K.Sink.faults l.sink;
}

abbrev pub decreases-pieces : goal.decreases-pieces
decreases-pieces g l = 4611686018427387904 - l.connection.count
