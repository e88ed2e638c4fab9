use Rattle.std.proofs.Common.{◌≡◌, ◌+◌, ◌≤◌, length}
use Rattle.scenario_run.specs.Lines.{lines_of}
use Rattle.scenario_play.specs.Player.{telling}
use Rattle.scenario_play.proofs.Writing.{Treated, Written}
use Rattle.scenario_play.proofs.play.play_lines.Given as goal

abbrev pub invariant-lines : goal.invariant-lines
invariant-lines g l = record {
  written : Written (g.K.Sink.held l.initial.sink) (g.K.Sink.held l.sink) ((telling g.P.Subject.script).text l.subject (lines_of l.rest))
      ((telling g.P.Subject.script).text l.initial.subject (lines_of l.text));
  treated : Treated ((telling g.P.Subject.script).text l.initial.subject) (lines_of l.text) (g.K.Sink.held l.initial.sink)
      (g.K.Sink.held l.sink) ((telling g.P.Subject.script).text l.subject) (lines_of l.rest);
  verdict : (telling g.P.Subject.script).verdict l.number l.subject (lines_of l.rest) ≡ (telling g.P.Subject.script).verdict 1 l.initial.subject (lines_of l.text);
  entries : (telling g.P.Subject.script).entries l.subject (lines_of l.rest) ≡ (telling g.P.Subject.script).entries l.initial.subject (lines_of l.text);
  ready : g.P.Subject.script.Ready l.number l.subject;
  within : l.number + length l.rest ≤ 1 + length l.text;
  later : g.K.Sink.faults l.initial.sink ≤ g.K.Sink.faults l.sink;
}

abbrev pub decreases-lines : goal.decreases-lines
decreases-lines g l = length l.rest
