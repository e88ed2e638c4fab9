use Rattle.std.proofs.Common.{refl}
use Rattle.scenario_play.specs.Outside.{Outside, outside}
use Rattle.group_program.specs.Session.{status_of}
use Rattle.group_program.proofs.Telling.{has_told}
use Rattle.group_program.proofs.serving.serve_shape.Goals as goal

pub returns-clause-served : goal.returns-clause-served
returns-clause-served g c =
    let input = g.S.Source.input c.session-end.new.source in
    let reads = g.S.Source.faults c.session-end.new.source in
    let served : Outside = outside input reads (g.K.Sink.held c.session-end.new.sink) (g.K.Sink.faults c.session-end.new.sink) in
    let told : Outside = outside input reads (g.K.Sink.held c.tell.new.sink) (g.K.Sink.faults c.tell.new.sink) in
    let tells = has_told (status_of c.session-end.result) c.status_of.result served told c.tell.result c.status_of.ensures in
    record {
      end = c.session-end.result;
      middle = served;
      ended = c.session-end.ensures.ended;
      kept = refl;
      later = c.session-end.ensures.later;
      told = tells c.tell.ensures.status c.tell.ensures.silent c.tell.ensures.line c.tell.ensures.front;
    }
