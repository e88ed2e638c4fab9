use Rattle.std.proofs.Common.{refl}
use Rattle.scenario_play.specs.Outside.{Outside, outside}
use Rattle.group_program.specs.Verifying.{status_of}
use Rattle.group_program.proofs.Telling.{has_told}
use Rattle.group_program.proofs.verifying.judge.Goals as goal

pub returns-clause-judged : goal.returns-clause-judged
returns-clause-judged g c =
    let input = g.S.Source.input c.verify_text-end.new.source in
    let reads = g.S.Source.faults c.verify_text-end.new.source in
    let judged : Outside = outside input reads (g.K.Sink.held c.verify_text-end.new.sink) (g.K.Sink.faults c.verify_text-end.new.sink) in
    let told : Outside = outside input reads (g.K.Sink.held c.tell.new.sink) (g.K.Sink.faults c.tell.new.sink) in
    let tells = has_told (status_of c.verify_text-end.result) c.status_of.result judged told c.tell.result c.status_of.ensures in
    record {
      end = c.verify_text-end.result;
      middle = judged;
      judged = c.verify_text-end.ensures.judged;
      kept = refl;
      later = c.verify_text-end.ensures.later;
      told = tells c.tell.ensures.status c.tell.ensures.silent c.tell.ensures.line c.tell.ensures.front;
    }
