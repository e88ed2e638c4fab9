use Rattle.std.proofs.Common.{◌≡◌, ◌≤◌}
use Rattle.front_end.specs.Answers.{stand}
use Rattle.front_end.proofs.Stepping.{AnsweredUpTo, steps_of}
use Rattle.front_end.proofs.answers.answer_all.Given as goal

abbrev pub invariant-requests : goal.invariant-requests
invariant-requests g l = record {
  up_to : AnsweredUpTo g.C.Caller.ways (g.T.Clock.moment l.clock)
      (stand l.initial.caller (g.K.Sink.held l.initial.sink)) (stand l.caller (g.K.Sink.held l.sink))
      l.initial.connection.waiting l.connection.waiting;
  kept : l.connection.kept ≡ l.initial.connection.kept;
  quits : l.connection.quits ≡ l.initial.connection.quits;
  count : l.connection.count ≡ l.initial.connection.count;
  later : g.K.Sink.faults l.initial.sink ≤ g.K.Sink.faults l.sink;
}

abbrev pub decreases-requests : goal.decreases-requests
decreases-requests g l = steps_of l.connection.waiting
