-- What reading a script comes to.
use Rattle.std.specs.Borrow.{Bor}
use Rattle.std.specs.Prelude.{ℕ, ◌≡◌, ◌≤◌, ◌+◌, ◌⊎◌, Bool, true, false, List, [], ◌∷◌, ◌++◌, All, Option, Some, None, Result, Ok, Err, ⊤}
use Rattle.scenario_text.specs.declared.line.LineFault.{LineFault}
use Rattle.scenario_text.specs.declared.line.LineFault.TheVariants as line
use Rattle.scenario_run.specs.Course.{Fault, Goes, Ends, Refused}
use Rattle.scenario_run.specs.Lines.{lines_of}
use Rattle.run_verify.specs.Sheet.{Sheet}
use Rattle.run_verify.specs.Judging.{IsStepOf}
use Rattle.run_verify.specs.Steps.{Script, Setting, StepNext, behind, ended, script_in}
use Rattle.run_verify.specs.declared.step.Step.{Step}
use Rattle.run_verify.specs.declared.setting.Treated.{Treated}
use Rattle.run_verify.specs.declared.setting.Treated.TheVariants as treated
use Rattle.run_verify.specs.declared.verdict.VerifyFault.{VerifyFault}
use Rattle.run_verify.specs.declared.verdict.VerifyFault.TheVariants.{BadLine, BadShape, Want}

-- the line before which lines were treated is the one of this number: no caller asked more often
abbrev pub IsAtLine : ℕ → Option Setting → Type 0
IsAtLine n None = ⊤
IsAtLine n (Some s) = All (λ count. count ≤ n) s.asked

-- the group line, or a line before it, was treated
abbrev pub HasTreatedFirst : StepNext → Result (Option Setting) LineFault → Type 0
HasTreatedFirst next (Ok setting) = next ≡ Goes setting [] []
HasTreatedFirst next (Err line.Want) = ⊤
HasTreatedFirst next (Err fault) = next ≡ Refused fault

-- what a line does was done
abbrev pub IsLineTreated : Option Setting → StepNext → Option Setting → Result Treated LineFault → Type 0
IsLineTreated before (Goes next steps text) now (Ok treated.Sets) = (now ≡ next) × (steps ≡ [])
IsLineTreated before (Goes next steps text) now (Ok (treated.Asks step)) = (now ≡ next) × (steps ≡ step ∷ [])
IsLineTreated before Ends now (Ok treated.Ends) = now ≡ before
IsLineTreated before next now (Err line.Want) = ⊤
IsLineTreated before (Refused fault) now (Err cause) = cause ≡ fault
IsLineTreated before next now _ = ⊥

-- something was read of lines, seen through f, or the first that is refused was found; want of memory may come at any time
abbrev pub HasReadLines : {X Y : Type 0} → (Y → X) → Result X (Fault LineFault) → Result Y VerifyFault → Type 0
HasReadLines f meant (Ok read) = meant ≡ Ok (f read)
HasReadLines f meant (Err (BadLine n)) = meant ≡ Err (record { number = n; cause = line.BadLine })
HasReadLines f meant (Err (BadShape field)) = (n : ℕ) × (meant ≡ Err (record { number = n; cause = line.BadShape field }))
HasReadLines f meant (Err Want) = ⊤

-- the same of a script
abbrev pub HasReadScript : Result Script (Fault LineFault) → Result Script VerifyFault → Type 0
HasReadScript meant read = HasReadLines (λ script. script) meant read

-- a script, and the text of its transcript
abbrev pub sheet_by : Script × Bor (List ℕ) → Sheet
sheet_by (script, transcript) = record { script = script; lines = lines_of transcript.now }

-- so it is where the fault of a line of this number is told
abbrev pub IsToldOf : ℕ → LineFault → VerifyFault → Type 0
IsToldOf n line.BadLine told = told ≡ BadLine n
IsToldOf n (line.BadShape field) told = told ≡ BadShape field
IsToldOf n line.Want told = told ≡ Want

-- a line was taken, with its number and the lines behind it: the script goes on with the steps that are kept, or ends before
-- it, or it has the first fault
abbrev pub HasTakenLine : ℕ → Option Setting → Option Setting → List Step → List Step → List ℕ → List (List ℕ) → Result Bool VerifyFault → Type 0
HasTakenLine n before now kept keeps line lines (Ok true) = (steps : List Step) × (keeps ≡ kept ++ steps)
    × (script_in n before (line ∷ lines) ≡ behind steps (script_in (n + 1) now lines))
HasTakenLine n before now kept keeps line lines (Ok false) = (now ≡ before) × (keeps ≡ kept) × (script_in n before (line ∷ lines) ≡ ended n before)
HasTakenLine n before now kept keeps line lines (Err fault) = HasReadScript (script_in n before (line ∷ lines)) (Err fault)

-- the step of a line that was treated is kept, where the line stands where it may
abbrev pub HasKept : List Step → List Step → Treated → Bool → ℕ → Result Bool VerifyFault → Type 0
HasKept kept keeps treated.Ends well n (Ok goes) = (goes ≡ false) × (keeps ≡ kept)
HasKept kept keeps treated.Sets well n (Ok goes) = (goes ≡ true) × (well ≡ true) × (keeps ≡ kept)
HasKept kept keeps (treated.Asks step) well n (Ok goes) = (goes ≡ true) × (well ≡ true) × (keeps ≡ kept ++ step ∷ [])
HasKept kept keeps treated.Ends well n (Err fault) = ⊥
HasKept kept keeps _ well n (Err fault) = (fault ≡ Want) ⊎ ((fault ≡ BadLine n) × (well ≡ false))

-- a line was treated behind the group line: the group stays, and a step is one of its steps
abbrev pub IsTreatedOf : Option Setting → Option Setting → Result Treated LineFault → Type 0
IsTreatedOf (Some before) (Some now) (Ok (treated.Asks step)) = (now.shape ≡ before.shape) × IsStepOf before.shape step
IsTreatedOf (Some before) (Some now) _ = now.shape ≡ before.shape
IsTreatedOf (Some before) None result = ⊥
IsTreatedOf None now (Ok (treated.Asks step)) = ⊥
IsTreatedOf None now _ = ⊤
