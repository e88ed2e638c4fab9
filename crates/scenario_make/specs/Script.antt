-- The script that a number makes.
use Rattle.std.specs.Prelude.{ℕ, zero, suc, ◌+◌, List, ◌++◌, codes, flat_map}
use Rattle.std.specs.List.{range_with_len}
use Rattle.scenario_make.specs.Rounds.{after_round, line, lines_before, round_from, round_words}

-- the state after so many rounds, from a number on
abbrev pub after_rounds : ℕ → ℕ → ℕ
after_rounds n zero = n
after_rounds n (suc r) = after_round (after_rounds n r)

-- the text of the round that follows so many
abbrev pub round_text : ℕ → ℕ → List ℕ
round_text n r = lines_before (r + 1) ++ line (round_words (r + 1) (round_from (after_rounds n r)))

-- the text of so many rounds
unfoldable pub rounds_text : ℕ → ℕ → List ℕ
rounds_text n rounds = flat_map (round_text n) (range_with_len 0 rounds)

-- the script: a group of five processes, 4,000 rounds, and an end at which all is delivered
unfoldable pub script_text : ℕ → List ℕ
script_text n = codes "group 3 2 64 64\n" ++ rounds_text n 4000 ++ codes "drain\nstop\n"
