-- What a line of a script comes to.
use Rattle.std.proofs.Common.{◌≡◌, ℕ, ◌+◌, ◌≤◌, Bool, true, false, List, [], ◌∷◌, ◌++◌, All, Option, Some, None, Result}
use Rattle.std.proofs.Common.{Ok, Err, inl, inr, refl, sym, ap, ◌∙◌, subst, append_assoc, arith, if◌then◌else◌}
use Rattle.std.proofs.lemmas.List.{append-nil}
use Rattle.std.proofs.lemmas.List.Elements.{All-append, All-cons, All-nil, All-replicate}
use Rattle.group_types.specs.Dimensions.{Dimensions}
use Rattle.scenario_text.specs.Meaning.{is_skipped, meaning_of}
use Rattle.scenario_text.specs.Words.{split_words}
use Rattle.scenario_text.specs.declared.line.Line.{Line}
use Rattle.scenario_text.specs.declared.line.Line.TheVariants.{Skipped, Group}
use Rattle.run_verify.specs.Judging.{AreStepsOf, IsStepOf}
use Rattle.scenario_text.specs.declared.line.LineFault.{LineFault}
use Rattle.scenario_text.specs.declared.line.LineFault.TheVariants as line
use Rattle.scenario_run.specs.Course.{Fault, Goes, Ends, Refused}
use Rattle.run_verify.specs.Scripts.{HasKept, HasReadScript, HasTakenLine, IsAtLine, IsLineTreated, IsToldOf, IsTreatedOf}
use Rattle.run_verify.specs.Steps.{Script, Setting, StepNext, bad_line, behind, ended, first_setting, first_steps}
use Rattle.run_verify.specs.Steps.{script_from_line, script_in, stands_well, steps_by_meaning, steps_of_line}
use Rattle.run_verify.specs.declared.setting.Treated.{Treated}
use Rattle.run_verify.specs.declared.setting.Treated.TheVariants as treated
use Rattle.run_verify.specs.declared.step.Step.{Step}
use Rattle.run_verify.specs.declared.verdict.VerifyFault.{VerifyFault}
use Rattle.run_verify.specs.declared.verdict.VerifyFault.TheVariants.{BadLine, BadShape, Want}

pub behind-none : (r : Result Script (Fault LineFault)) → behind [] r ≡ r
behind-none (Ok script) = refl
behind-none (Err fault) = refl

pub behind-both : (a b : List Step) (r : Result Script (Fault LineFault)) → behind (a ++ b) r ≡ behind a (behind b r)
behind-both a b (Ok script) = ap (λ (steps : List Step). Ok (record { shape = script.shape; steps = steps })) (append_assoc a b script.steps)
behind-both a b (Err fault) = refl

-- what the line does, seen by what it comes to
from-line : (n : ℕ) (before : Option Setting) (bytes : List ℕ) (lines : List (List ℕ)) (next : StepNext)
    (skipped well : Bool) → steps_of_line before bytes ≡ next → is_skipped bytes ≡ skipped → stands_well bytes lines ≡ well
    → script_in n before (bytes ∷ lines) ≡ script_from_line skipped well n before next (λ setting. script_in (n + 1) setting lines)
from-line n before bytes lines next skipped well e s w =
    ap (λ (x : StepNext). script_from_line (is_skipped bytes) (stands_well bytes lines) n before x (λ setting. script_in (n + 1) setting lines)) e
    ∙ ap (λ (b : Bool). script_from_line b (stands_well bytes lines) n before next (λ setting. script_in (n + 1) setting lines)) s
    ∙ ap (λ (b : Bool). script_from_line skipped b n before next (λ setting. script_in (n + 1) setting lines)) w

pub line-goes : (n : ℕ) (before now : Option Setting) (steps : List Step) (text : List ℕ) (bytes : List ℕ)
    (lines : List (List ℕ)) → steps_of_line before bytes ≡ Goes now steps text
    → is_skipped bytes ≡ false → stands_well bytes lines ≡ true → script_in n before (bytes ∷ lines) ≡ behind steps (script_in (n + 1) now lines)
line-goes n before now steps text bytes lines e written well = from-line n before bytes lines (Goes now steps text) false true e written well

pub line-skipped : (n : ℕ) (before now : Option Setting) (steps : List Step) (text : List ℕ) (bytes : List ℕ)
    (lines : List (List ℕ)) → steps_of_line before bytes ≡ Goes now steps text
    → is_skipped bytes ≡ true → script_in n before (bytes ∷ lines) ≡ script_in (n + 1) now lines
line-skipped n before now steps text bytes lines e skipped = from-line n before bytes lines (Goes now steps text) true (stands_well bytes lines) e skipped refl

pub line-misplaced : (n : ℕ) (before now : Option Setting) (steps : List Step) (text : List ℕ) (bytes : List ℕ)
    (lines : List (List ℕ)) → steps_of_line before bytes ≡ Goes now steps text
    → is_skipped bytes ≡ false → stands_well bytes lines ≡ false → script_in n before (bytes ∷ lines) ≡ bad_line n
line-misplaced n before now steps text bytes lines e written bad = from-line n before bytes lines (Goes now steps text) false false e written bad

pub line-ends : (n : ℕ) (before : Option Setting) (bytes : List ℕ) (lines : List (List ℕ)) → steps_of_line before bytes ≡ Ends
    → script_in n before (bytes ∷ lines) ≡ ended n before
line-ends n before bytes lines e = from-line n before bytes lines Ends (is_skipped bytes) (stands_well bytes lines) e refl refl

pub line-refused : (n : ℕ) (before : Option Setting) (bytes : List ℕ) (lines : List (List ℕ)) (cause : LineFault) → steps_of_line before bytes ≡ Refused cause
    → script_in n before (bytes ∷ lines) ≡ Err (record { number = n; cause = cause })
line-refused n before bytes lines cause e = from-line n before bytes lines (Refused cause) (is_skipped bytes) (stands_well bytes lines) e refl refl

-- a line that is skipped
pub line-passed : (n : ℕ) (before : Option Setting) (bytes : List ℕ) (lines : List (List ℕ)) → is_skipped bytes ≡ true
    → steps_of_line before bytes ≡ Goes before [] []
line-passed n None bytes lines skipped = ap (λ (b : Bool). steps_by_meaning None (if b then Ok Skipped else meaning_of None (split_words bytes))) skipped
line-passed n (Some s) bytes lines skipped =
    ap (λ (b : Bool). steps_by_meaning (Some s) (if b then Ok Skipped else meaning_of (Some s.shape) (split_words bytes))) skipped

-- a line that is written, treated and kept
module _ (n : ℕ) (before now : Option Setting) (kept keeps : List Step) (bytes : List ℕ) (lines : List (List ℕ)) (written : is_skipped bytes ≡ false) where
  kept-by : (next : StepNext) → steps_of_line before bytes ≡ next → (done : Treated) (result : Result Bool VerifyFault)
      → IsLineTreated before next now (Ok done)
      → HasKept kept keeps done (stands_well bytes lines) n result → HasTakenLine n before now kept keeps bytes lines result
  kept-by (Goes to steps text) e treated.Sets (Ok true) done is = (
    [],
    is.2 ∙ sym (append-nil kept),
    line-goes n before now steps text bytes lines
        (e ∙ ap (λ (o : Option Setting). Goes o steps text) (sym done.0)) written is.1
        ∙ ap (λ (ss : List Step). behind ss (script_in (n + 1) now lines)) done.1,
  )
  kept-by (Goes to steps text) e (treated.Asks step) (Ok true) done is = (
    step ∷ [],
    is.2,
    line-goes n before now steps text bytes lines
        (e ∙ ap (λ (o : Option Setting). Goes o steps text) (sym done.0)) written is.1
        ∙ ap (λ (ss : List Step). behind ss (script_in (n + 1) now lines)) done.1,
  )
  kept-by (Goes to steps text) e treated.Sets (Ok false) done is = absurd (cc (is.0))
  kept-by (Goes to steps text) e (treated.Asks step) (Ok false) done is = absurd (cc (is.0))
  kept-by (Goes to steps text) e treated.Sets (Err fault) done (inl want) =
      subst (λ (f : VerifyFault). HasReadScript (script_in n before (bytes ∷ lines)) (Err f)) (sym want) tt
  kept-by (Goes to steps text) e treated.Sets (Err fault) done (inr bad) =
      subst (λ (f : VerifyFault). HasReadScript (script_in n before (bytes ∷ lines)) (Err f)) (sym bad.0)
      (line-misplaced n before to steps text bytes lines e written bad.1)
  kept-by (Goes to steps text) e (treated.Asks step) (Err fault) done (inl want) =
      subst (λ (f : VerifyFault). HasReadScript (script_in n before (bytes ∷ lines)) (Err f)) (sym want) tt
  kept-by (Goes to steps text) e (treated.Asks step) (Err fault) done (inr bad) =
      subst (λ (f : VerifyFault). HasReadScript (script_in n before (bytes ∷ lines)) (Err f)) (sym bad.0)
      (line-misplaced n before to steps text bytes lines e written bad.1)
  kept-by Ends e treated.Ends (Ok false) done is = (done, is.1, line-ends n before bytes lines e)
  kept-by Ends e treated.Ends (Ok true) done is = absurd (cc (is.0))
  kept-by Ends e treated.Ends (Err fault) done is = absurd is
  kept-by other e another result done is = absurd done

  pub line-kept : (done : Treated) (result : Result Bool VerifyFault)
      → IsLineTreated before (steps_of_line before bytes) now (Ok done) → HasKept kept keeps done (stands_well bytes lines) n
      result
      → HasTakenLine n before now kept keeps bytes lines result
  line-kept done result is = kept-by (steps_of_line before bytes) refl done result is

pub line-told : (n : ℕ) (before now : Option Setting) (bytes : List ℕ) (lines : List (List ℕ)) (cause : LineFault)
    (fault : VerifyFault) → IsLineTreated before (steps_of_line before bytes) now (Err cause) → IsToldOf n cause fault
    → HasReadScript (script_in n before (bytes ∷ lines)) (Err fault)
line-told n before now bytes lines cause fault = by (steps_of_line before bytes) refl cause where
  by : (next : StepNext) → steps_of_line before bytes ≡ next → (cause : LineFault) → IsLineTreated before next now (Err cause)
      → IsToldOf n cause fault → HasReadScript (script_in n before (bytes ∷ lines)) (Err fault)
  by next e line.Want is told = subst (λ (f : VerifyFault). HasReadScript (script_in n before (bytes ∷ lines)) (Err f)) (sym told) tt
  by (Refused c) e line.BadLine is told =
      subst (λ (f : VerifyFault). HasReadScript (script_in n before (bytes ∷ lines)) (Err f)) (sym told)
      (line-refused n before bytes lines line.BadLine (e ∙ ap Refused (sym is)))
  by (Refused c) e (line.BadShape field) is told =
      subst (λ (f : VerifyFault). HasReadScript (script_in n before (bytes ∷ lines)) (Err f)) (sym told)
      (n, line-refused n before bytes lines (line.BadShape field) (e ∙ ap Refused (sym is)))
  by next e cause is told = absurd is

-- a line that is skipped is taken
pub line-skips : (n : ℕ) (before : Option Setting) (kept : List Step) (bytes : List ℕ) (lines : List (List ℕ))
    → is_skipped bytes ≡ true → HasTakenLine n before before kept kept bytes lines (Ok true)
line-skips n before kept bytes lines skipped = (
  [],
  sym (append-nil kept),
  line-skipped n before before [] [] bytes lines
      (line-passed n before bytes lines skipped) skipped ∙ sym (behind-none (script_in (n + 1) before lines)),
)

-- lines behind a line that was taken
pub goes-on : (n : ℕ) (before now : Option Setting) (kept keeps : List Step) (bytes : List ℕ) (lines : List (List ℕ))
    (all : Result Script (Fault LineFault)) → HasTakenLine n before now kept keeps bytes lines (Ok true)
    → behind kept (script_in n before (bytes ∷ lines)) ≡ all → behind keeps (script_in (n + 1) now lines) ≡ all
goes-on n before now kept keeps bytes lines all (steps, more, is) same =
    ap (λ (ss : List Step). behind ss (script_in (n + 1) now lines)) more
    ∙ behind-both kept steps (script_in (n + 1) now lines) ∙ ap (behind kept) (sym is) ∙ same

pub ends-there : (n : ℕ) (before now : Option Setting) (kept keeps : List Step) (bytes : List ℕ) (lines : List (List ℕ))
    (all : Result Script (Fault LineFault)) → HasTakenLine n before now kept keeps bytes lines (Ok false)
    → behind kept (script_in n before (bytes ∷ lines)) ≡ all → behind keeps (ended n now) ≡ all
ends-there n before now kept keeps bytes lines all (setting, steps, is) same =
    ap (λ (o : Option Setting). behind keeps (ended n o)) setting ∙ ap (λ (ss : List Step). behind ss (ended n before)) steps ∙ ap (behind kept) (sym is) ∙ same

fault-stays : (kept : List Step) (r all : Result Script (Fault LineFault)) (f : Fault LineFault) → behind kept r ≡ all → r ≡ Err f → all ≡ Err f
fault-stays kept r all f same is = sym same ∙ ap (behind kept) is

pub faults-there : (n : ℕ) (before : Option Setting) (kept : List Step) (bytes : List ℕ) (lines : List (List ℕ))
    (all : Result Script (Fault LineFault)) (fault : VerifyFault)
    → HasReadScript (script_in n before (bytes ∷ lines)) (Err fault) → behind kept (script_in n before (bytes ∷ lines)) ≡ all → HasReadScript all (Err fault)
faults-there n before kept bytes lines all (BadLine m) is same = fault-stays kept (script_in n before (bytes ∷ lines)) all _ same is
faults-there n before kept bytes lines all (BadShape field) is same = (is.0, fault-stays kept (script_in n before (bytes ∷ lines)) all _ same is.1)
faults-there n before kept bytes lines all Want is same = tt

-- no caller has asked at the group line
pub low_first : (n : ℕ) (shape : Dimensions) → IsAtLine n (Some (first_setting shape))
low_first n shape = All-replicate (λ count. count ≤ n) 256 0 (omega arith)

-- the setting that a first line leaves
abbrev LowIn : ℕ → StepNext → Type 0
LowIn n (Goes now steps text) = IsAtLine n now
LowIn n Ends = Unit {0}
LowIn n (Refused cause) = Unit {0}

first-low : (line : Line) (n : ℕ) → LowIn n (first_steps line)
first-low (Group shape) n = low_first n shape
first-low l n = tt

pub begun-low : (line : Line) (setting : Option Setting) (n : ℕ) → first_steps line ≡ Goes setting [] [] → IsAtLine n setting
begun-low line setting n is = subst (LowIn n) is (first-low line n)

no-steps : (now : Option Setting) (keeps : List Step) → keeps ≡ [] → AreStepsOf now keeps
no-steps None keeps none = none
no-steps (Some s) keeps none = subst (All (IsStepOf s.shape)) (sym none) (All-nil (IsStepOf s.shape))

-- the steps of a script, with what a line asks
pub steps-kept : (before now : Option Setting) (kept keeps : List Step) (done : Treated) (well : Bool) (n : ℕ)
    (goes : Bool) → HasKept kept keeps done well n (Ok goes) → IsTreatedOf before now (Ok done)
    → AreStepsOf before kept → AreStepsOf now keeps
steps-kept None now kept keeps treated.Sets well n goes is of are = no-steps now keeps (is.2 ∙ are)
steps-kept None now kept keeps treated.Ends well n goes is of are = no-steps now keeps (is.1 ∙ are)
steps-kept (Some before) (Some now) kept keeps treated.Sets well n goes is of are =
    subst (All (IsStepOf now.shape)) (sym is.2) (subst (λ (s : Dimensions). All (IsStepOf s) kept) (sym of) are)
steps-kept (Some before) (Some now) kept keeps treated.Ends well n goes is of are =
    subst (All (IsStepOf now.shape)) (sym is.1) (subst (λ (s : Dimensions). All (IsStepOf s) kept) (sym of) are)
steps-kept (Some before) (Some now) kept keeps (treated.Asks step) well n goes is of are =
    let one : All (IsStepOf before.shape) (step ∷ []) = All-cons (IsStepOf before.shape) step [] of.1 (All-nil (IsStepOf before.shape)) in
    subst (All (IsStepOf now.shape)) (sym is.2) (subst (λ (s : Dimensions). All (IsStepOf s) (kept ++ step ∷ []))
    (sym of.0) (All-append (IsStepOf before.shape) kept (step ∷ []) are one))
steps-kept o now kept keeps other well n goes is of are = absurd of
