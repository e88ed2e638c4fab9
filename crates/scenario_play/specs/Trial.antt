use Rattle.std.specs.Prelude.{ℕ, List, ◌++◌, codes, length}
use Rattle.std.specs.Fmt.{decimal}
use Rattle.group_calls.specs.Turns.{log_of}
use Rattle.scenario_make.specs.Script.{script_text}
use Rattle.scenario_run.specs.Lines.{lines_of}
use Rattle.scenario_run.specs.Script.{script_turns, transcript}

-- what came of playing a script: its lines, the entries of its log, and the bytes of its transcript
abbrev pub trial_of : ℕ → List ℕ → List ℕ
trial_of n text = codes "trial " ++ decimal n ++ codes " lines " ++ decimal (length (lines_of text)) ++ codes " logged "
    ++ decimal (length (log_of (script_turns text)))
    ++ codes " bytes " ++ decimal (length (transcript text)) ++ codes "\n"

-- the line of the number's script
abbrev pub trial_text : ℕ → List ℕ
trial_text n = trial_of n (script_text n)
