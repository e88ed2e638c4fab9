use Rattle.std.proofs.Common.{refl}
use Rattle.scenario_play.specs.Language.{language_of}
use Rattle.scenario_play.specs.Outside.{Outside, outside}
use Rattle.scenario_play.proofs.Ending.{played-done, told-ended}
use Rattle.scenario_play.proofs.play.play_on.Goals as goal

pub returns-in-Ok-clause-played : goal.returns-in-Ok-clause-played
returns-in-Ok-clause-played g c =
    let a : Outside = outside (g.S.Source.input c.args.source.now) (g.S.Source.faults c.args.source.now)
    (g.K.Sink.held c.args.sink.now) (g.K.Sink.faults c.args.sink.now) in
    let after = c.play_script.new in
    let b : Outside = outside (g.S.Source.input after.source) (g.S.Source.faults after.source) (g.K.Sink.held after.sink) (g.K.Sink.faults after.sink) in
    played-done (language_of g.P.Subject.script)
    (λ text is. is) a b c.in-Ok.field-0 c.in-Ok.ensures.end

pub returns-in-Err-clause-played : goal.returns-in-Err-clause-played
returns-in-Err-clause-played g c =
    let a : Outside = outside (g.S.Source.input c.args.source.now) (g.S.Source.faults c.args.source.now)
    (g.K.Sink.held c.args.sink.now) (g.K.Sink.faults c.args.sink.now) in
    let after = c.play_script.new in
    let left = g.S.Source.input after.source in
    let reads = g.S.Source.faults after.source in
    let b : Outside = outside left reads (g.K.Sink.held after.sink) (g.K.Sink.faults after.sink) in
    let told : Outside = outside left reads (g.K.Sink.held c.tell.new.sink) (g.K.Sink.faults c.tell.new.sink) in
    let tells = told-ended (language_of g.P.Subject.script) a
    b told refl refl c.in-Err.ensures.later c.tell.ensures.later c.in-Err.status c.tell.result c.in-Err.ensures.end in
    tells c.tell.ensures.status c.tell.ensures.silent c.tell.ensures.line c.tell.ensures.front
