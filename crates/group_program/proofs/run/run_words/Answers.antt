use Rattle.std.proofs.Common.{rules, ◌≡◌, ℕ, List, map, subst, Global}
use Rattle.std.specs.String.{string_bytes}
use Rattle.command_line.specs.Words.{command_of_words}
use Rattle.group_server.specs.Service.{tally_with}
use Rattle.scenario_play.specs.Outside.{outside}
use Rattle.group_program.specs.Arguments.{words_behind}
use Rattle.group_program.specs.Run.{HasRunCommand}
use Rattle.group_program.proofs.run.run_words.Goals as goal

pub returns-in-Ok-clause-ran : goal.returns-in-Ok-clause-ran
returns-in-Ok-clause-ran g c =
    let said : map (string_bytes {Z = Global}) c.deref.result.now ≡ words_behind c.args.args = search rules in
    record {
      status = c.run_explained.result;
      number_is = c.exit_of.ensures;
      run = subst (λ (words : List (List ℕ)).
          HasRunCommand (λ s k. outside (g.S.Source.input s) (g.S.Source.faults s) (g.K.Sink.held k)
          (g.K.Sink.faults k)) g.L.Listener.listened
          (λ l. tally_with (g.L.Listener.at l) (g.L.Listener.accepted l) (g.L.Listener.over l)) g.L.Listener.faults
          g.M.Machine.ran g.M.Watcher.watched g.M.Carrier.carried
          g.T.Clock.moment c.args.edges.now c.run_explained.new.edges (command_of_words words) c.run_explained.result) said c.run_explained.ensures;
    }
