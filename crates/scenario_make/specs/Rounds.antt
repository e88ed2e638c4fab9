-- What a round of a script does, by the numbers that are drawn for it, and the line that tells it.
use Rattle.std.specs.Prelude.{ℕ, zero, suc, ◌+◌, ◌-◌, ◌==◌, nat_lt, List, [], ◌∷◌, ◌++◌, codes, if◌then◌else◌}
use Rattle.std.specs.Fmt.{decimal}
use Rattle.group_types.specs.Hash.{home_of}
use Rattle.group_types.specs.declared.process.ProcessId.{ProcessId}
use Rattle.group_types.specs.declared.process.ProcessId.TheVariants.{DataNode, ParityNode}
use Rattle.scenario_make.specs.Draws.{after_draws, draw}
use Rattle.scenario_make.specs.declared.round.Round.{Round}
use Rattle.scenario_make.specs.declared.round.Round.TheVariants.{Set, Get, Delete, Deliver, Drain, Flush}

-- what a round does of which the first number is x, drawn from state s
abbrev pub round_by : ℕ → ℕ → Round
round_by x s =
    if nat_lt x 4 then Set (draw s 2 8) (draw s 3 20) (draw s 4 40 + 1)
    else if nat_lt x 6 then Get (draw s 2 8) (draw s 3 20)
    else if x == 6 then Deliver (draw s 2 5) (draw s 3 5)
    else if x == 7 then Drain
    else if x == 8 then Flush (draw s 2 3)
    else Delete (draw s 2 8) (draw s 3 20)

-- what the round does that is drawn from a state
abbrev pub round_from : ℕ → Round
round_from s = round_by (draw s 1 10) s

-- how many numbers were drawn for it
abbrev pub draws_of : Round → ℕ
draws_of (Set _ _ _) = 4
draws_of (Get _ _) = 3
draws_of (Delete _ _) = 3
draws_of (Deliver _ _) = 3
draws_of (Flush _) = 2
draws_of Drain = 1

-- the state after a round
abbrev pub after_round : ℕ → ℕ
after_round s = after_draws s (draws_of (round_from s))

-- the rounds from which on data process 0, and then parity process 0, is lost
abbrev pub first_loss : ℕ
first_loss = 2001

abbrev pub second_loss : ℕ
second_loss = 3001

-- the process that is asked in a round about a key of a home: of the lost one its next in rank
unfoldable pub asked_process : ℕ → ℕ → ProcessId
asked_process round zero = if nat_lt round first_loss then DataNode 0 else if nat_lt round second_loss then ParityNode 0 else ParityNode 1
asked_process round (suc d) = DataNode (suc d)

-- a process by its place among the processes of the group
unfoldable pub process_numbered : ℕ → ProcessId
process_numbered x = if nat_lt x 3 then DataNode x else ParityNode (x - 3)

-- the word of a process
unfoldable pub process_name : ProcessId → List ℕ
process_name (DataNode d) = codes "d" ++ decimal d
process_name (ParityNode i) = codes "p" ++ decimal i

-- the words of a key, and of a value of as many bytes
abbrev pub key_name : ℕ → List ℕ
key_name i = codes "k" ++ decimal i

abbrev pub value_word : ℕ → List ℕ
value_word len = codes "*" ++ (decimal len ++ codes "*61")

-- the words by which a caller asks an op on key i in a round
abbrev pub ask_words : ℕ → ℕ → ℕ → List (List ℕ) → List (List ℕ)
ask_words round caller i op = codes "ask" ∷ decimal caller ∷ process_name (asked_process round (home_of (key_name i) 3)) ∷ op

-- the words of a round's line
abbrev pub round_words : ℕ → Round → List (List ℕ)
round_words round (Set caller i len) = ask_words round caller i (codes "set" ∷ key_name i ∷ codes "0" ∷ value_word len ∷ [])
round_words round (Get caller i) = ask_words round caller i (codes "get" ∷ key_name i ∷ [])
round_words round (Delete caller i) = ask_words round caller i (codes "delete" ∷ key_name i ∷ [])
round_words round (Deliver from to) =
    if from == to then codes "drain" ∷ [] else codes "deliver" ∷ process_name (process_numbered from) ∷ process_name (process_numbered to) ∷ []
round_words round Drain = codes "drain" ∷ []
round_words round (Flush d) = codes "flush" ∷ process_name (DataNode d) ∷ []

-- words with single spaces between them, and a line end
abbrev pub line : List (List ℕ) → List ℕ
line [] = codes "\n"
line (word ∷ []) = word ++ codes "\n"
line (word ∷ next ∷ words) = word ++ (codes " " ++ line (next ∷ words))

-- the lines before that of a round: a loss, after which the group is drained
abbrev pub lines_before : ℕ → List ℕ
lines_before round =
    if round == first_loss then codes "fail d0 1\ndrain\n"
    else if round == second_loss then codes "fail p0 1\ndrain\n"
    else []
