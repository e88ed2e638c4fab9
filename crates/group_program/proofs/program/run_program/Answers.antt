use Rattle.std.proofs.Common.{rules, ◌≡◌, inl, inr, refl, sym, subst, ◌∙◌, map, Option, Some, None, Global}
use Rattle.std.specs.String.{string_bytes}
use Rattle.cluster_play.specs.Language.{cluster_scripts}
use Rattle.regroup_play.specs.Language.{era_scripts}
use Rattle.command_line.specs.Words.{command_of_words}
use Rattle.command_line.specs.declared.command.Command.{Command}
use Rattle.group_server.specs.Service.{tally_with}
use Rattle.scenario_play.specs.Language.{group_scripts}
use Rattle.scenario_play.specs.Outside.{Outside, outside}
use Rattle.scenario_play.specs.declared.status.Status.TheVariants.{BadWords}
use Rattle.group_program.specs.Program.{HasCarriedOut}
use Rattle.group_program.proofs.Telling.{has_told, played_whole, served_whole, stopped}
use Rattle.group_program.proofs.program.run_program.Goals as goal

pub returns-in-Ok-clause-ran : goal.returns-in-Ok-clause-ran
returns-in-Ok-clause-ran g c =
    let said : command_of_words (map (string_bytes {Z = Global}) c.args.words.now) ≡ Some c.in-Ok.command = search rules in
    inl (subst (λ (o : Option Command). HasCarriedOut g.L.Listener.listened
    (λ l. tally_with (g.L.Listener.at l) (g.L.Listener.accepted l) (g.L.Listener.over l)) c.args.listener.now
    c.run_command.new.listener o (g.T.Clock.moment c.args.clock.now)
    (outside (g.S.Source.input c.args.source.now) (g.S.Source.faults c.args.source.now) (g.K.Sink.held c.args.sink.now) (g.K.Sink.faults c.args.sink.now))
    (outside (g.S.Source.input c.run_command.new.source) (g.S.Source.faults c.run_command.new.source)
    (g.K.Sink.held c.run_command.new.sink) (g.K.Sink.faults c.run_command.new.sink))
    c.run_command.result) (sym said) c.run_command.ensures.ran)

pub returns-in-Ok-clause-promises : goal.returns-in-Ok-clause-promises
returns-in-Ok-clause-promises g c play done =
    let said : command_of_words (map (string_bytes {Z = Global}) c.args.words.now) ≡ Some c.in-Ok.command = search rules in
    played_whole group_scripts _ _ c.run_command.result
    (subst (λ (o : Option Command). HasCarriedOut g.L.Listener.listened
    (λ l. tally_with (g.L.Listener.at l) (g.L.Listener.accepted l) (g.L.Listener.over l)) c.args.listener.now
    c.run_command.new.listener o (g.T.Clock.moment c.args.clock.now)
    (outside (g.S.Source.input c.args.source.now) (g.S.Source.faults c.args.source.now) (g.K.Sink.held c.args.sink.now) (g.K.Sink.faults c.args.sink.now))
    (outside (g.S.Source.input c.run_command.new.source) (g.S.Source.faults c.run_command.new.source)
    (g.K.Sink.held c.run_command.new.sink) (g.K.Sink.faults c.run_command.new.sink))
    c.run_command.result) (sym said ∙ play) c.run_command.ensures.ran) done

pub returns-in-Ok-clause-cluster_promises : goal.returns-in-Ok-clause-cluster_promises
returns-in-Ok-clause-cluster_promises g c play done =
    let said : command_of_words (map (string_bytes {Z = Global}) c.args.words.now) ≡ Some c.in-Ok.command = search rules in
    played_whole cluster_scripts _ _ c.run_command.result
    (subst (λ (o : Option Command). HasCarriedOut g.L.Listener.listened
    (λ l. tally_with (g.L.Listener.at l) (g.L.Listener.accepted l) (g.L.Listener.over l)) c.args.listener.now
    c.run_command.new.listener o (g.T.Clock.moment c.args.clock.now)
    (outside (g.S.Source.input c.args.source.now) (g.S.Source.faults c.args.source.now) (g.K.Sink.held c.args.sink.now) (g.K.Sink.faults c.args.sink.now))
    (outside (g.S.Source.input c.run_command.new.source) (g.S.Source.faults c.run_command.new.source)
    (g.K.Sink.held c.run_command.new.sink) (g.K.Sink.faults c.run_command.new.sink))
    c.run_command.result) (sym said ∙ play) c.run_command.ensures.ran) done

pub returns-in-Ok-clause-era_promises : goal.returns-in-Ok-clause-era_promises
returns-in-Ok-clause-era_promises g c play done =
    let said : command_of_words (map (string_bytes {Z = Global}) c.args.words.now) ≡ Some c.in-Ok.command = search rules in
    played_whole era_scripts _ _ c.run_command.result
    (subst (λ (o : Option Command). HasCarriedOut g.L.Listener.listened
    (λ l. tally_with (g.L.Listener.at l) (g.L.Listener.accepted l) (g.L.Listener.over l)) c.args.listener.now
    c.run_command.new.listener o (g.T.Clock.moment c.args.clock.now)
    (outside (g.S.Source.input c.args.source.now) (g.S.Source.faults c.args.source.now) (g.K.Sink.held c.args.sink.now) (g.K.Sink.faults c.args.sink.now))
    (outside (g.S.Source.input c.run_command.new.source) (g.S.Source.faults c.run_command.new.source)
    (g.K.Sink.held c.run_command.new.sink) (g.K.Sink.faults c.run_command.new.sink))
    c.run_command.result) (sym said ∙ play) c.run_command.ensures.ran) done

pub returns-in-Ok-clause-serves : goal.returns-in-Ok-clause-serves
returns-in-Ok-clause-serves g c serve done =
    let said : command_of_words (map (string_bytes {Z = Global}) c.args.words.now) ≡ Some c.in-Ok.command = search rules in
    served_whole _ _ _ _ _ _ c.run_command.result done
    (subst (λ (o : Option Command). HasCarriedOut g.L.Listener.listened
    (λ l. tally_with (g.L.Listener.at l) (g.L.Listener.accepted l) (g.L.Listener.over l)) c.args.listener.now
    c.run_command.new.listener o (g.T.Clock.moment c.args.clock.now)
    (outside (g.S.Source.input c.args.source.now) (g.S.Source.faults c.args.source.now) (g.K.Sink.held c.args.sink.now) (g.K.Sink.faults c.args.sink.now))
    (outside (g.S.Source.input c.run_command.new.source) (g.S.Source.faults c.run_command.new.source)
    (g.K.Sink.held c.run_command.new.sink) (g.K.Sink.faults c.run_command.new.sink))
    c.run_command.result) (sym said ∙ serve) c.run_command.ensures.ran)

pub returns-in-Err-BadWords-clause-ran : goal.returns-in-Err-BadWords-clause-ran
returns-in-Err-BadWords-clause-ran g c =
    let source = c.args.source.now in
    let sink = c.args.sink.now in
    let before : Outside = outside (g.S.Source.input source) (g.S.Source.faults source) (g.K.Sink.held sink) (g.K.Sink.faults sink) in
    let now : Outside = outside (g.S.Source.input source) (g.S.Source.faults source) (g.K.Sink.held c.tell.new.sink) (g.K.Sink.faults c.tell.new.sink) in
    let said : command_of_words (map (string_bytes {Z = Global}) c.args.words.now) ≡ None = search rules in
    inl (subst (λ (o : Option Command). HasCarriedOut g.L.Listener.listened
    (λ l. tally_with (g.L.Listener.at l) (g.L.Listener.accepted l) (g.L.Listener.over l)) c.args.listener.now
    c.args.listener.now o (g.T.Clock.moment c.args.clock.now) before now c.tell.result) (sym said)
    (has_told BadWords BadWords before now c.tell.result refl c.tell.ensures.status c.tell.ensures.silent c.tell.ensures.line c.tell.ensures.front))

pub returns-in-Err-Want-clause-ran : goal.returns-in-Err-Want-clause-ran
returns-in-Err-Want-clause-ran g c = inr (stopped _ _ c.tell-in-Err-Want.result c.tell-in-Err-Want.ensures.status c.tell-in-Err-Want.ensures.front, refl)
