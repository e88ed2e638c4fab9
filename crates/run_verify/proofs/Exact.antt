-- A transcript that is checked has no line that fails.
use Rattle.std.proofs.Common.{◌≡◌, ◌+◌, ◌∙◌, ℕ, false, List, [], length, Ok, Option, refl, sym, subst, arith}
use Rattle.group_types.proofs.Lists.{at-replicate}
use Rattle.group_types.specs.declared.run.Run.{Run}
use Rattle.group_calls.specs.Turns.{Turn}
use Rattle.run_verify.specs.Checked.{IsChecked}
use Rattle.run_verify.specs.Exact.{CheckedTranscriptsPass, VerdictsAreExact}
use Rattle.run_verify.specs.Passing.{Account, PassAll, first_account, first_state}
use Rattle.run_verify.specs.Sheet.{Sheet, sheet_of}
use Rattle.run_verify.specs.Told.{runs_told, turns_told}
use Rattle.run_verify.specs.declared.change.Change.{Change}
use Rattle.run_verify.specs.declared.verdict.Verdict.TheVariants.{Verified, Refused}
use Rattle.run_verify.proofs.ExactEntries.{Now}
use Rattle.run_verify.proofs.ExactFits.{empty-fits}
use Rattle.run_verify.proofs.ExactKnown.{checks_of, fit_steps}
use Rattle.run_verify.proofs.ExactNext.{never_fails}
use Rattle.run_verify.proofs.ExactScript.{good_sheet}
use Rattle.run_verify.proofs.ExactSteps.{steps_pass}
use Rattle.run_verify.proofs.ImpliedChanges.{MatchAll}
use Rattle.run_verify.proofs.ImpliedStands.{stands-first}
use Rattle.run_verify.proofs.PlainScript.{ends-read}
use Rattle.run_verify.specs.Updates.{updates_by}

-- before the first line nothing was asked, and nothing is logged
now-first : (sheet : Sheet) (runs : List (List (Option Run))) → Now sheet runs (first_account sheet.script.shape.k) [] []
now-first sheet runs = record {
  stands = stands-first sheet.script.shape.k;
  table = refl;
  changes = λ d below. subst (λ (cs : List Change). MatchAll cs (updates_by sheet.script.shape runs [] d))
      (sym (at-replicate {X = List Change} [] sheet.script.shape.k d)) tt;
  fits = empty-fits sheet.script.shape.k;
  placed = refl;
}

pub checked_transcripts_pass : CheckedTranscriptsPass
checked_transcripts_pass text sheet short is checked =
    let good = good_sheet text sheet is in
    let ends = ends-read text sheet is in
    let turns : List Turn = turns_told checked.told in
    let runs : List (List (Option Run)) = runs_told checked.told in
    let checks = checks_of sheet (length text + 1) good (omega (arith, short)) ends checked in
    let first : Account = first_account sheet.script.shape.k in
    let all = steps_pass sheet turns runs checks sheet.script.steps checked.told [] refl refl checked.tells ends
    (fit_steps sheet.script.shape sheet.script.steps good.fit) checked.shown first false (now-first sheet runs) in
    let passes : PassAll sheet (first_state sheet.script) sheet.lines all.0 =
    subst (λ (ls : List (List ℕ)). PassAll sheet (first_state sheet.script) ls all.0) (sym checked.lines) all.1 in
    let few = good.short in
    record {
      account = all.0;
      passes = passes;
      none = λ n. never_fails sheet n sheet.script.shape.k all.0 sheet.script.steps good.shape (omega (arith, short, few)) passes;
    }

-- a text gives one sheet
one-sheet : (text : List ℕ) (one other : Sheet) → sheet_of text ≡ Ok one → sheet_of text ≡ Ok other → other ≡ one
one-sheet text one other is also = let same : Ok other ≡ Ok one = sym also ∙ is in cc same

pub verdicts_are_exact : VerdictsAreExact
verdicts_are_exact text (Verified entries shown) short (sheet, is, verified) = (sheet, is, verified.checked)
verdicts_are_exact text (Refused n) short (sheet, is, fails) = λ found. refused found.0 found.1 found.2
  where
    refused : (other : Sheet) → sheet_of text ≡ Ok other → ¬ (IsChecked other.script other.lines)
    refused other also checked =
        let same = one-sheet text sheet other is also in
        (checked_transcripts_pass text sheet short is (subst (λ (x : Sheet). IsChecked x.script x.lines) same checked)).none n fails
