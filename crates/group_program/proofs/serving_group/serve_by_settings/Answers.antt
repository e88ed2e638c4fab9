use Rattle.std.proofs.Common.{refl}
use Rattle.scenario_play.specs.Outside.{Outside, outside}
use Rattle.group_program.specs.Serving.{status_of}
use Rattle.group_program.proofs.Telling.{has_told}
use Rattle.group_program.proofs.serving_group.serve_by_settings.Goals as goal

pub returns-clause-served : goal.returns-clause-served
returns-clause-served g c =
    let input = g.S.Source.input c.serve-end.new.source in
    let reads = g.S.Source.faults c.serve-end.new.source in
    let served : Outside = outside input reads (g.K.Sink.held c.serve-end.new.sink) (g.K.Sink.faults c.serve-end.new.sink) in
    let told : Outside = outside input reads (g.K.Sink.held c.tell.new.sink) (g.K.Sink.faults c.tell.new.sink) in
    let tells = has_told (status_of c.serve-end.result) c.status_of.result served told c.tell.result c.status_of.ensures in
    record {
      end = c.serve-end.result;
      middle = served;
      served = c.serve-end.ensures.served;
      kept = refl;
      later = c.serve-end.ensures.write.later;
      told = tells c.tell.ensures.status c.tell.ensures.silent c.tell.ensures.line c.tell.ensures.front;
    }
