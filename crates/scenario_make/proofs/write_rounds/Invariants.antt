use Rattle.std.proofs.Common.{◌≡◌, ◌-◌, ◌++◌, flat_map}
use Rattle.std.specs.List.{range_with_len}
use Rattle.scenario_make.specs.Script.{after_rounds, round_text, rounds_text}
use Rattle.scenario_make.proofs.write_rounds.Given as goal

abbrev pub invariant-rounds : goal.invariant-rounds
invariant-rounds l = record {
  left : l.text.items ++ flat_map (round_text l.n) (range_with_len l.past (l.rounds - l.past)) ≡ l.initial.text.items ++ rounds_text l.n l.rounds;
  state : l.draws ≡ after_rounds l.n l.past;
}
