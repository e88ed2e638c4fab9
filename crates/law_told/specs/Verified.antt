-- What `verify` takes from a text, and what the numbers say that it tells.
use Rattle.std.specs.Prelude.{ℕ, ◌≡◌, ◌≢◌, ◌==◌, Bool, true, false, List, [], ◌∷◌, ◌++◌, codes, filter, length, None, Result, Ok, Err, if◌then◌else◌}
use Rattle.group_types.specs.Each.{Each}
use Rattle.scenario_text.specs.declared.line.LineFault.{LineFault}
use Rattle.scenario_run.specs.Course.{Fault}
use Rattle.scenario_run.specs.Lines.{lines_of}
use Rattle.run_verify.specs.Sheet.{Sheet, sheet_of}
use Rattle.run_verify.specs.Steps.{Script, script_in}
use Rattle.run_verify.specs.Verdict.{IsVerdictOf}
use Rattle.run_verify.specs.declared.verdict.Verdict.TheVariants.{Verified}
use Rattle.law_told.specs.Lines.{is_log_line, text_of}

-- a line that can stand in a script before its transcript
pub record IsScriptLine (line : List ℕ) : Type 0 where
  pub whole : Each (λ b. b ≢ 10) line
  pub other : line ≢ codes "===="

-- the text of a script: such lines, each with its line end
pub record IsScriptText (text : List ℕ) : Type 0 where
  pub lines : List (List ℕ)
  pub is : text ≡ text_of lines
  pub each : Each IsScriptLine lines

-- the sheet has the script that was read, and this transcript; or what is refused of the script is refused of the sheet
abbrev pub IsCutInto : Result Script (Fault LineFault) → List ℕ → Result Sheet (Fault LineFault) → Type 0
IsCutInto (Ok script) transcript sheet = sheet ≡ Ok (record { script = script; lines = lines_of transcript })
IsCutInto (Err fault) transcript sheet = sheet ≡ Err fault

-- a script, the line `====` and a transcript are read as this script and this transcript, whatever the transcript is
abbrev pub SheetsAreCut : Type 0
SheetsAreCut = (script transcript : List ℕ) → IsScriptText script → IsCutInto (script_in 1 None (lines_of script))
    transcript (sheet_of (script ++ (codes "====\n" ++ transcript)))

-- whether a line begins with these bytes
abbrev pub begins_with : List ℕ → List ℕ → Bool
begins_with [] line = true
begins_with (b ∷ bs) [] = false
begins_with (b ∷ bs) (c ∷ cs) = if b == c then begins_with bs cs else false

-- whether it tells bytes that a process shows
abbrev pub is_shown_line : List ℕ → Bool
is_shown_line line = begins_with (codes "shown ") line

-- of the lines of a transcript, so many begin with `=`, and so many with `shown `
pub record AreCounted (text : List ℕ) (entries shown : ℕ) : Type 0 where
  pub sheet : Sheet
  pub is : sheet_of text ≡ Ok sheet
  pub entries_are : entries ≡ length (filter is_log_line sheet.lines)
  pub shown_are : shown ≡ length (filter is_shown_line sheet.lines)

-- these are the numbers of a text that is verified
abbrev pub NumbersAreCounts : Type 0
NumbersAreCounts = (text : List ℕ) (entries shown : ℕ) → IsVerdictOf text (Ok (Verified entries shown)) → AreCounted text entries shown
