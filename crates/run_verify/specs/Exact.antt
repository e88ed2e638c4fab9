-- A transcript passes exactly where it is checked.
use Rattle.std.specs.Prelude.{ℕ, ◌≡◌, ◌≤◌, List, length, Ok}
use Rattle.run_verify.specs.Checked.{IsChecked}
use Rattle.run_verify.specs.Passing.{Account, FailsAt, PassAll, first_state}
use Rattle.run_verify.specs.Sheet.{Sheet, sheet_of}
use Rattle.run_verify.specs.Text.{longest_sheet}
use Rattle.run_verify.specs.Verdict.{IsVerdictOf}
use Rattle.run_verify.specs.declared.verdict.Verdict.{Verdict}
use Rattle.run_verify.specs.declared.verdict.Verdict.TheVariants.{Verified, Refused}

-- all lines of a sheet pass, and none of them fails
pub record PassesWhole (sheet : Sheet) : Type 0 where
  pub account : Account
  pub passes : PassAll sheet (first_state sheet.script) sheet.lines account
  pub none : (n : ℕ) → ¬ (FailsAt sheet n (first_state sheet.script) sheet.lines)

-- so it is where the transcript of a text is checked
abbrev pub CheckedTranscriptsPass : Type 0
CheckedTranscriptsPass = (text : List ℕ) (sheet : Sheet) → length text ≤ longest_sheet → sheet_of text ≡ Ok sheet
    → IsChecked sheet.script sheet.lines → PassesWhole sheet

-- a text gives a sheet whose transcript is checked
abbrev pub IsCheckedText : List ℕ → Type 0
IsCheckedText text = (sheet : Sheet) × (sheet_of text ≡ Ok sheet) × IsChecked sheet.script sheet.lines

-- a verdict is a yes exactly where the text is such a one
abbrev pub IsExact : List ℕ → Verdict → Type 0
IsExact text (Verified entries shown) = IsCheckedText text
IsExact text (Refused n) = ¬ (IsCheckedText text)

abbrev pub VerdictsAreExact : Type 0
VerdictsAreExact = (text : List ℕ) (verdict : Verdict) → length text ≤ longest_sheet → IsVerdictOf text (Ok verdict) → IsExact text verdict
