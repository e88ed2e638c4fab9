use Rattle.std.proofs.Common.{List, ℕ, ◌++◌, ap, ◌∙◌}
use Rattle.scenario_make.specs.Rounds.{after_round, round_from}
use Rattle.scenario_make.proofs.Rounds.{after-more, one-more}
use Rattle.scenario_make.proofs.write_rounds.Goals as goal

pub rounds-preserved : goal.rounds-preserved
rounds-preserved c = record {
  left = one-more c.args.n c.rounds.past c.args.rounds c.rounds.text.items c.extend_from_slice-in-rounds.new.self.items _ c.rounds-test.true (record {
    losses = c.losses_before.result.now;
    written = c.as_bytes.result.now;
    round = c.draw-round.result;
    drawn = c.draw-round.ensures.round ∙ ap round_from c.rounds.invariant.state;
    losses_are = c.losses_before.ensures;
    written_is = c.as_bytes.ensures.value ∙ c.in_ok-write_line.ensures;
    new_is = c.in_ok-extend_from_slice-2.ensures.items ∙ ap (λ (text : List ℕ). text ++ c.as_bytes.result.now) c.in_ok-extend_from_slice.ensures.items;
  }) c.rounds.invariant.left;
  state = c.draw-round.ensures.state ∙ ap after_round c.rounds.invariant.state ∙ after-more c.args.n c.rounds.past;
}
