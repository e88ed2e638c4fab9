use Rattle.scenario_play.proofs.Treating.{treated-err, treated-ok}
use Rattle.scenario_play.proofs.subject.treat_line.Goals as goal

pub returns-in-Ok : goal.returns-in-Ok
returns-in-Ok g c = treated-ok g.P.Subject.script c.args.number c.args.subject.now c.treat.new.subject c.args.line.now
    c.in-Ok.text c.treat.ensures.onward c.requires.ready c.in-Ok.ensures.done

pub returns-in-Err : goal.returns-in-Err
returns-in-Err g c = treated-err g.P.Subject.script c.args.number c.args.subject.now c.treat.new.subject c.args.line.now
    g.met.P.Subject.tells c.in-Err.fault c.told.result c.told.ensures c.in-Err.ensures.done
