-- What a verdict says of a text.
use Rattle.std.specs.Prelude.{ℕ, ◌≡◌, List, Result, Ok, Err, ⊤}
use Rattle.scenario_text.specs.declared.line.LineFault.TheVariants as line
use Rattle.run_verify.specs.Checked.{IsChecked}
use Rattle.run_verify.specs.Passing.{Account, FailsAt, PassAll, first_state}
use Rattle.run_verify.specs.Sheet.{Sheet, sheet_of}
use Rattle.run_verify.specs.declared.verdict.Verdict.{Verdict}
use Rattle.run_verify.specs.declared.verdict.Verdict.TheVariants.{Verified, Refused}
use Rattle.run_verify.specs.declared.verdict.VerifyFault.{VerifyFault}
use Rattle.run_verify.specs.declared.verdict.VerifyFault.TheVariants.{BadLine, BadShape, Want}

-- a sheet is verified, with so many entries and lines that show bytes: no line fails, so it is checked
pub record IsVerified (sheet : Sheet) (many shows : ℕ) : Type 0 where
  pub account : Account
  pub passes : PassAll sheet (first_state sheet.script) sheet.lines account
  pub entries : account.entries ≡ many
  pub shown : account.shown ≡ shows
  pub checked : IsChecked sheet.script sheet.lines

-- the verdict of a text
abbrev pub IsVerdictOf : List ℕ → Result Verdict VerifyFault → Type 0
IsVerdictOf text (Ok (Verified entries shown)) = (sheet : Sheet) × (sheet_of text ≡ Ok sheet) × IsVerified sheet entries shown
IsVerdictOf text (Ok (Refused n)) = (sheet : Sheet) × (sheet_of text ≡ Ok sheet) × FailsAt sheet n (first_state sheet.script) sheet.lines
IsVerdictOf text (Err (BadLine n)) = sheet_of text ≡ Err (record { number = n; cause = line.BadLine })
IsVerdictOf text (Err (BadShape field)) = (n : ℕ) × (sheet_of text ≡ Err (record { number = n; cause = line.BadShape field }))
IsVerdictOf text (Err Want) = ⊤
