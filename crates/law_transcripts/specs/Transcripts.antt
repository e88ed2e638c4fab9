-- What is promised of the transcripts that are played.
use Rattle.std.specs.Prelude.{ℕ, ◌≡◌, ◌≤◌, List, length, None, Ok, ⊤}
use Rattle.scenario_run.specs.Lines.{lines_of}
use Rattle.scenario_run.specs.Script.{transcript}
use Rattle.scenario_play.specs.Language.{group_scripts, status_told}
use Rattle.scenario_play.specs.declared.status.Status.TheVariants.{Done}
use Rattle.run_verify.specs.Checked.{IsChecked}
use Rattle.run_verify.specs.Sheet.{sheet_of}
use Rattle.run_verify.specs.Steps.{Script, script_in}
use Rattle.run_verify.specs.Text.{longest_sheet}
use Rattle.run_verify.specs.Verdict.{IsVerdictOf}
use Rattle.run_verify.specs.declared.verdict.Verdict.{Verdict}
use Rattle.run_verify.specs.declared.verdict.Verdict.TheVariants.{Verified, Refused}

-- where a script is played to its end, and is one that is verified, its transcript is checked
abbrev pub TranscriptsAreChecked : Type 0
TranscriptsAreChecked = (text : List ℕ) (script : Script) → status_told group_scripts text ≡ Done → script_in 1 None (lines_of text) ≡ Ok script
    → IsChecked script (lines_of (transcript text))

-- a verdict is a yes
abbrev pub IsYes : Verdict → Type 0
IsYes (Verified entries shown) = ⊤
IsYes (Refused n) = ⊥

-- so the verdict on both, in one text that isn't too long, is a yes
abbrev pub TranscriptsAreVerified : Type 0
TranscriptsAreVerified = (text both : List ℕ) (script : Script) (verdict : Verdict) → status_told group_scripts text ≡ Done
    → script_in 1 None (lines_of text) ≡ Ok script → sheet_of both ≡ Ok (record { script = script; lines = lines_of (transcript text) })
    → length both ≤ longest_sheet → IsVerdictOf both (Ok verdict) → IsYes verdict
