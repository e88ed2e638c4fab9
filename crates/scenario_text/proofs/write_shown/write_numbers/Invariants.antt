use Rattle.std.proofs.Common.{◌≡◌, ◌++◌, drop}
use Rattle.scenario_text.specs.Texts.{behind_commas}
use Rattle.scenario_text.proofs.write_shown.write_numbers.Given as goal

abbrev pub invariant-numbers : goal.invariant-numbers
invariant-numbers l = l.text.items ++ behind_commas (drop l.number-index l.numbers) ≡ l.initial.text.items ++ behind_commas l.numbers
