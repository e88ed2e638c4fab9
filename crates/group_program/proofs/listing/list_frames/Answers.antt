use Rattle.std.proofs.Common.{refl}
use Rattle.scenario_play.specs.Outside.{Outside, outside}
use Rattle.group_program.specs.Frames.{status_of}
use Rattle.group_program.proofs.Telling.{has_told}
use Rattle.group_program.proofs.listing.list_frames.Goals as goal

pub returns-clause-listed : goal.returns-clause-listed
returns-clause-listed g c =
    let input = g.S.Source.input c.frames-end.new.source in
    let reads = g.S.Source.faults c.frames-end.new.source in
    let listed : Outside = outside input reads (g.K.Sink.held c.frames-end.new.sink) (g.K.Sink.faults c.frames-end.new.sink) in
    let told : Outside = outside input reads (g.K.Sink.held c.tell.new.sink) (g.K.Sink.faults c.tell.new.sink) in
    let tells = has_told (status_of c.frames-end.result) c.status_of.result listed told c.tell.result c.status_of.ensures in
    record {
      end = c.frames-end.result;
      middle = listed;
      framed = c.frames-end.ensures.framed;
      kept = refl;
      later = c.frames-end.ensures.later;
      told = tells c.tell.ensures.status c.tell.ensures.silent c.tell.ensures.line c.tell.ensures.front;
    }
