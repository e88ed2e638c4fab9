-- What was judged of a sheet is the verdict of its text.
use Rattle.std.proofs.Common.{◌≡◌, ◌<◌, ◌^◌, ℕ, List, length, Ok, sym, subst, arith}
use Rattle.std.specs.Prelude.{All}
use Rattle.group_types.specs.Dimensions.{Dimensions}
use Rattle.run_verify.specs.Courses.{IsJudged}
use Rattle.run_verify.specs.Judging.{IsStepOf}
use Rattle.run_verify.specs.Passing.{FailsAt, first_state}
use Rattle.run_verify.specs.Plain.{FitsStep, IsPlainScript}
use Rattle.run_verify.specs.Sheet.{Sheet, sheet_of}
use Rattle.run_verify.specs.Verdict.{IsVerdictOf}
use Rattle.run_verify.specs.declared.step.Step.{Step}
use Rattle.run_verify.specs.declared.step.Step.TheVariants.{Make, Deliveries, Look, Placing}
use Rattle.run_verify.specs.declared.verdict.Verdict.{Verdict}
use Rattle.run_verify.specs.declared.verdict.Verdict.TheVariants.{Verified, Refused}
use Rattle.run_verify.proofs.Implied.{passes-checked}
use Rattle.run_verify.proofs.PlainScript.{ends-read, fit-all}

fits-step : (s : Dimensions) (step : Step) → IsStepOf s step → FitsStep s step
fits-step s (Make event) is = is
fits-step s Deliveries is = tt
fits-step s (Look p run) is = is.0
fits-step s Placing is = tt

-- the sheet that was read
module _ (text : List ℕ) (sheet : Sheet) (read : sheet_of text ≡ Ok sheet)
    (steps : All (IsStepOf sheet.script.shape) sheet.script.steps) (few : length sheet.script.steps < 2 ^ 64) where
  plain : IsPlainScript sheet.script
  plain = record {
    fits = fit-all sheet.script.shape (IsStepOf sheet.script.shape) (fits-step sheet.script.shape)
        sheet.script.steps steps;
    few = few;
    ends = ends-read text sheet read;
  }

  pub verdict_of : (v : Verdict) → IsJudged sheet v → IsVerdictOf text (Ok v)
  verdict_of (Verified many shows) (account, passes, entries, shown) =
      (sheet, read, record { account = account; passes = passes; entries = entries; shown = shown; checked = passes-checked sheet account plain passes })
  verdict_of (Refused n) (m, is, fails) = let same : n ≡ m = omega (arith, is) in
      (sheet, read, subst (λ (k : ℕ). FailsAt sheet k (first_state sheet.script) sheet.lines) (sym same) fails)
