-- The steps of a script that is read are those that its course asks, and its shape is that of the group.
use Rattle.std.proofs.Common.{◌≡◌, ◌+◌, ℕ, Bool, true, false, List, [], ◌∷◌, ◌++◌, ◌∙◌, Option, Some, None, Result, Ok, Err, refl, sym, ap}
use Rattle.group_types.specs.Dimensions.{Dimensions}
use Rattle.scenario_text.specs.Meaning.{is_skipped, line_meaning}
use Rattle.scenario_text.specs.declared.line.LineFault.{LineFault}
use Rattle.scenario_run.specs.Course.{Ends, Fault, Goes, Refused, named_in}
use Rattle.scenario_run.specs.Lines.{lines_of}
use Rattle.scenario_run.specs.Playing.{Play, PlayNext, next_of, shape_in}
use Rattle.scenario_run.specs.Script.{script_shape}
use Rattle.scenario_run.proofs.Following.{named-line}
use Rattle.run_verify.specs.Steps as verify
use Rattle.run_verify.specs.Steps.{Script, Setting, StepNext, behind, ended, script_from_line, script_in, stands_well}
use Rattle.run_verify.specs.declared.step.Step.{Step}
use Rattle.run_verify.proofs.PlainScript.{skips}
use Rattle.law_transcripts.proofs.Beside.{Beside, SameNext, Stays, line-beside}
use Rattle.law_transcripts.proofs.Telling.{steps_along, steps_on}

abbrev Outcome : Type 0
Outcome = Result Script (Fault LineFault)

-- a script has the steps of these lines, and the shape of their group
abbrev pub IsScript : Option Play → List (List ℕ) → Script → Type 0
IsScript p lines script = (script.steps ≡ steps_along p lines) × (shape_in (named_in next_of p lines) ≡ Some script.shape)

-- the steps from a line on, by what it does
abbrev pub steps_from : Option Play → List ℕ → List (List ℕ) → PlayNext → List Step
steps_from p line lines next =
    elim next [ Goes q turns text ↦ steps_on p (line_meaning (shape_in p) line) ++ steps_along q lines | Ends ↦ [] | Refused cause ↦ [] ]

abbrev Goal : List (List ℕ) → Type 0
Goal lines = (n : ℕ) (s : Option Setting) (p : Option Play) (script : Script) → Beside s p → script_in n s lines ≡ Ok script → IsScript p lines script

behind-ok : (steps : List Step) (r : Outcome) (script : Script) → behind steps r ≡ Ok script
    → (rest : Script) × (r ≡ Ok rest) × (record { shape = rest.shape; steps = steps ++ rest.steps } ≡ script)
behind-ok steps (Ok rest) script is = (rest, refl, cc is)
behind-ok steps (Err fault) script is = cc is

-- the shape that is named stays
named-stays : (p q : Option Play) (line : List ℕ) (lines : List (List ℕ)) (turns : List _) (text : List ℕ) → next_of p line ≡ Goes q turns text → Stays p q
    → shape_in (named_in next_of p (line ∷ lines)) ≡ shape_in (named_in next_of q lines)
named-stays None q line lines turns text is stays = ap shape_in (named-line next_of line lines (Goes q turns text) is)
named-stays (Some p) None line lines turns text is stays = absurd stays
named-stays (Some p) (Some q) line lines turns text is stays = ap (λ (d : Dimensions). Some d) (sym stays)

-- a script that ends here
ends : (n : ℕ) (s : Option Setting) (p : Option Play) (lines : List (List ℕ)) (script : Script) → Beside s p → ended n s ≡ Ok script
    → (script.steps ≡ []) × (shape_in (named_in next_of p lines) ≡ Some script.shape)
ends n None p lines script same is = cc is
ends n (Some s) None lines script same is = absurd same
ends n (Some s) (Some p) lines script same is =
    let both : record { shape = s.shape; steps = [] } ≡ script = cc is in
    (sym (ap (λ (x : Script). x.steps) both), ap (λ (d : Dimensions). Some d) (sym same.shape ∙ ap (λ (x : Script). x.shape) both))

from-next : (line : List ℕ) (lines : List (List ℕ)) → Goal lines → (n : ℕ) (s : Option Setting) (p : Option Play) (script : Script) → Beside s p
    → (a : StepNext) (b : PlayNext) → next_of p line ≡ b
    → SameNext p a b (steps_on p (line_meaning (shape_in p) line)) → (skipped well : Bool) → (skipped ≡ true → a ≡ Goes s [] [])
    → script_from_line skipped well n s a (λ next. script_in (n + 1) next lines) ≡ Ok script
    → (script.steps ≡ steps_from p line lines b) × (shape_in (named_in next_of p (line ∷ lines)) ≡ Some script.shape)
from-next line lines onward n s p script same (Goes t steps text) (Goes q turns written) is (beside, own, stays) true well skips_it ok =
    let rest = onward (n + 1) t q script beside ok in
    let none : steps ≡ [] = let both : Goes t steps text ≡ Goes s [] [] = skips_it refl in cc both in
    (rest.0 ∙ ap (λ (st : List Step). st ++ steps_along q lines) (sym none ∙ own), named-stays p q line lines turns written is stays ∙ rest.1)
from-next line lines onward n s p script same (Goes t steps text) (Goes q turns written) is (beside, own, stays) false false skips_it ok = cc ok
from-next line lines onward n s p script same (Goes t steps text) (Goes q turns written) is (beside, own, stays) false true skips_it ok =
    let read = behind-ok steps (script_in (n + 1) t lines) script ok in
    let rest = onward (n + 1) t q read.0 beside read.1 in (
      sym (ap (λ (x : Script). x.steps) read.2) ∙ (λ i. own i ++ rest.0 i),
      named-stays p q line lines turns written is stays ∙ rest.1
          ∙ ap (λ (x : Script). Some x.shape) read.2,
    )
from-next line lines onward n s p script same Ends Ends is next skipped well skips_it ok = ends n s p (line ∷ lines) script same ok
from-next line lines onward n s p script same (Refused a) (Refused b) is next skipped well skips_it ok = cc ok
from-next line lines onward n s p script same other another is next skipped well skips_it ok = absurd next

is-script : (lines : List (List ℕ)) → Goal lines
is-script [] n s p script same ok = ends n s p [] script same ok
is-script (line ∷ lines) n s p script same ok =
    from-next line lines (is-script lines) n s p script same (verify.steps_of_line s line) (next_of p line) refl (line-beside s p line same) (is_skipped line)
    (stands_well line lines) (λ skipped. skips line s skipped) ok

-- the steps that are read, and the shape
pub script-is : (text : List ℕ) (script : Script) → script_in 1 None (lines_of text) ≡ Ok script
    → (script.steps ≡ steps_along None (lines_of text)) × (script_shape text ≡ Some script.shape)
script-is text script ok = is-script (lines_of text) 1 None None script tt ok
