-- A script, the line `====`, and a transcript, in one text.
use Rattle.std.specs.Prelude.{ℕ, ◌+◌, List, [], ◌∷◌, codes, length, Option, Some, None, Result, Ok, Err, if◌then◌else◌}
use Rattle.std.specs.Str.{bytes_eq}
use Rattle.scenario_text.specs.declared.line.LineFault.{LineFault}
use Rattle.scenario_text.specs.declared.line.LineFault.TheVariants.{BadLine}
use Rattle.scenario_run.specs.Course.{Fault}
use Rattle.scenario_run.specs.Lines.{lines_of}
use Rattle.run_verify.specs.Steps.{Script, script_in}

-- the line between both
abbrev pub separator : List ℕ
separator = codes "===="

-- the lines before the first separator, all where there is none
abbrev pub before_separator : List (List ℕ) → List (List ℕ)
before_separator [] = []
before_separator (line ∷ lines) = if bytes_eq line separator then [] else line ∷ before_separator lines

-- the lines behind it, if there is one
abbrev pub behind_separator : List (List ℕ) → Option (List (List ℕ))
behind_separator [] = None
behind_separator (line ∷ lines) = if bytes_eq line separator then Some lines else behind_separator lines

-- a script to be checked, and the lines of its transcript
pub record Sheet : Type 0 where
  pub script : Script
  pub lines : List (List ℕ)

-- a sheet of both; where there is no separator, the line of the number n is lacking
abbrev pub sheet_joined : ℕ → Result Script (Fault LineFault) → Option (List (List ℕ)) → Result Sheet (Fault LineFault)
sheet_joined n (Err fault) lines = Err fault
sheet_joined n (Ok script) None = Err (record { number = n; cause = BadLine })
sheet_joined n (Ok script) (Some lines) = Ok (record { script = script; lines = lines })

-- the sheet of lines
abbrev pub sheet_in : List (List ℕ) → Result Sheet (Fault LineFault)
sheet_in lines = sheet_joined (length lines + 1) (script_in 1 None (before_separator lines)) (behind_separator lines)

-- the sheet of a text, or its first line that is refused
abbrev pub sheet_of : List ℕ → Result Sheet (Fault LineFault)
sheet_of text = sheet_in (lines_of text)
