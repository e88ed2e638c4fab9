-- A transcript that is played is checked, and so verified.
use Rattle.std.proofs.Common.{ℕ, ◌≡◌, ◌≤◌, Bool, true, false, nat_lt, List, [], length, Option, Some, None, if◌then◌else◌, refl, sym, subst, arith}
use Rattle.std.proofs.lemmas.Bool.Decides.{nat_tests}
use Rattle.scenario_text.specs.declared.line.LineFault.{LineFault}
use Rattle.scenario_text.specs.declared.line.LineFault.TheVariants as line
use Rattle.scenario_run.specs.Course.{Fault}
use Rattle.scenario_run.specs.Lines.{lines_of}
use Rattle.scenario_run.specs.Script.{first_fault, transcript}
use Rattle.scenario_run.proofs.Promises.{scripts_keep_promises}
use Rattle.scenario_play.specs.Language.{group_scripts, status_told}
use Rattle.scenario_play.specs.Status.{longest_script, status_of_lines, told_at, verdict}
use Rattle.scenario_play.specs.declared.status.Status.TheVariants.{Done, TooLong}
use Rattle.run_verify.specs.Checked.{AreWellShown}
use Rattle.run_verify.specs.Plain.{EndsPlacing}
use Rattle.run_verify.specs.Told.{runs_told}
use Rattle.run_verify.specs.declared.step.Step.{Step}
use Rattle.run_verify.specs.Sheet.{Sheet}
use Rattle.run_verify.specs.declared.verdict.Verdict.TheVariants.{Verified, Refused}
use Rattle.run_verify.proofs.Exact.{verdicts_are_exact}
use Rattle.run_verify.proofs.PlainScript.{ends-first}
use Rattle.law_transcripts.specs.Transcripts.{TranscriptsAreChecked, TranscriptsAreVerified}
use Rattle.law_transcripts.proofs.Half.{IsToldBy, told-by}
use Rattle.law_transcripts.proofs.ShownTrue.{IsTold, told-true}
use Rattle.law_transcripts.proofs.Telling.{steps_along, told_along}

-- a script that is played to its end is within the limit
short-enough : (text : List ℕ) → status_told group_scripts text ≡ Done → (length text ≤ longest_script) × (verdict text ≡ Done)
short-enough text done = by (nat_lt longest_script (length text)) refl done where
  by : (b : Bool) → nat_lt longest_script (length text) ≡ b → (if b then TooLong else verdict text) ≡ Done
      → (length text ≤ longest_script) × (verdict text ≡ Done)
  by true is done = absurd (cc done)
  by false is done = (grind (arith, nat_tests, is), done)

-- and none of its lines is refused
no-fault : (text : List ℕ) → verdict text ≡ Done → first_fault text ≡ None
no-fault text done = by (first_fault text) done where
  never : (n : ℕ) (cause : LineFault) → ¬ (told_at n cause ≡ Done)
  never n line.BadLine is = cc is
  never n (line.BadShape field) is = cc is
  never n line.Want is = cc is

  by : (fault : Option (Fault LineFault)) → status_of_lines told_at fault ≡ Done → fault ≡ None
  by None done = refl
  by (Some fault) done = absurd (never fault.number fault.cause done)

pub transcripts_are_checked : TranscriptsAreChecked
transcripts_are_checked text script done ok = record {
  told = told_along None (lines_of text);
  tells = lines.tells;
  lines = lines.lines;
  legal = all.legal;
  within = all.within;
  placed = all.placed;
  shown = subst (λ (steps : List Step). AreWellShown script.shape (runs_told (told_along None (lines_of text))) [] steps (told_along None (lines_of text)))
      (sym lines.steps) all.shown;
}
  where
    short : (length text ≤ longest_script) × (verdict text ≡ Done)
    short = short-enough text done

    fine : first_fault text ≡ None
    fine = no-fault text short.1

    lines : IsToldBy text script
    lines = told-by text script short.0 fine ok

    ends : EndsPlacing (steps_along None (lines_of text))
    ends = subst EndsPlacing lines.steps (ends-first (lines_of text) 1 script ok)

    all : IsTold script.shape (steps_along None (lines_of text)) (told_along None (lines_of text))
    all = told-true text script.shape (scripts_keep_promises text fine) lines.shape ends

pub transcripts_are_verified : TranscriptsAreVerified
transcripts_are_verified text both script (Verified entries shown) done ok is short verdict = tt
transcripts_are_verified text both script (Refused n) done ok is short verdict =
    let sheet : Sheet = record { script = script; lines = lines_of (transcript text) } in
    verdicts_are_exact both (Refused n) short verdict (sheet, is, transcripts_are_checked text script done ok)
