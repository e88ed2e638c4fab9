-- A turn of the loop over the lines of a transcript.
use Rattle.std.proofs.Common.{◌≡◌, ◌≤◌, ◌+◌, ◌-◌, ℕ, Bool, List, [], ◌∷◌, ◌∙◌, drop, get_or, length, take, sym, ap, subst, arith}
use Rattle.std.proofs.lemmas.List.{take_all}
use Rattle.std.specs.Prelude.{All, Result, Ok, Err, IfOk}
use Rattle.group_types.specs.Dimensions.{Dimensions}
use Rattle.group_types.specs.Shape.{IsShape}
use Rattle.run_verify.specs.Courses.{HasFoundBy, IsAccountWithin, IsJudgedBehind, IsPlacedBehind, judging_state, logging_by, turn_by}
use Rattle.run_verify.specs.Judging.{IsStepOf}
use Rattle.run_verify.specs.Passing.{Account, JudgingState, begins_entry}
use Rattle.run_verify.specs.Placings.{placing}
use Rattle.run_verify.specs.Plain.{EndsPlacing}
use Rattle.run_verify.specs.Sheet.{Sheet}
use Rattle.run_verify.specs.declared.pass.Found.{Found}
use Rattle.run_verify.specs.declared.pass.Found.TheVariants as found
use Rattle.run_verify.specs.declared.step.Step.{Step}
use Rattle.run_verify.specs.declared.verdict.Verdict.{Verdict}
use Rattle.run_verify.specs.declared.verdict.Verdict.TheVariants.{Refused}
use Rattle.run_verify.proofs.Judged.{Goes, goes_ends, goes_fit, goes_passes, goes_within, judged_fails, judged_on, judged_places}

pub split_turn : (turn : List Step) (step : Step) → 1 ≤ length turn → step ≡ get_or turn 0 step → turn ≡ step ∷ drop 1 turn
split_turn [] step some is = absurd (omega (arith, some))
split_turn (x ∷ xs) step some is = ap (λ (y : Step). y ∷ xs) (sym is)

-- what holds of a good answer holds otherwise
pub ok_else : {X E : Type 0} (P Q : X → Type 0) (r : Result X E) → ((x : X) → P x → Q x) → IfOk r P → IfOk r Q
ok_else P Q (Ok x) onward is = onward x is
ok_else P Q (Err e) onward is = tt

module _ (sheet : Sheet) (a : Account) (turn : List Step) (step : Step) (logging : Bool) (line : List ℕ)
    (ahead : List (List ℕ)) (now : Account) (split : turn ≡ step ∷ drop 1 turn) where
  -- the line fails
  pub moved_fails : HasFoundBy (begins_entry line) sheet a step (drop 1 turn) logging line ahead now found.Fails
      → (done : ℕ) → IsJudgedBehind done sheet (judging_state a turn logging) (line ∷ ahead) (Refused (done + 1))
  moved_fails none done =
      subst (λ (t : List Step). IsJudgedBehind done sheet (judging_state a t logging) (line ∷ ahead) (Refused (done + 1))) (sym split)
      (judged_fails sheet (judging_state a (step ∷ drop 1 turn) logging) line ahead done none)

  -- it is one for the places
  pub moved_places : HasFoundBy (begins_entry line) sheet a step (drop 1 turn) logging line ahead now found.Places
      → EndsPlacing turn → (s : Dimensions) → sheet.script.shape ≡ s → (done : ℕ) (v : Verdict)
      → IsPlacedBehind done s now (line ∷ ahead) v → IsJudgedBehind done sheet (judging_state a turn logging) (line ∷ ahead) v
  moved_places (is, other, same) ends s shape done v placed =
      let here = subst (λ (x : Account). IsJudgedBehind done sheet (placing x) (line ∷ ahead) v) same (placed sheet shape) in
      subst (λ (t : List Step). IsJudgedBehind done sheet (judging_state a t logging) (line ∷ ahead) v) (sym split)
      (judged_places sheet a logging line ahead other step (drop 1 turn) is (subst EndsPlacing split ends) done v here)

  -- it passes
  module _ (p : Found) (goes : Goes p) (is : HasFoundBy (begins_entry line) sheet a step (drop 1 turn) logging line ahead now p) (next : List Step) (may : Bool)
      (next_is : next ≡ turn_by p turn (drop 1 turn)) (may_is : may ≡ logging_by p logging) where
    next-split : next ≡ turn_by p (step ∷ drop 1 turn) (drop 1 turn)
    next-split = next_is ∙ ap (λ (t : List Step). turn_by p t (drop 1 turn)) split

    pub moved_judged : (done : ℕ) (v : Verdict) → IsJudgedBehind (done + 1) sheet (judging_state now next may) ahead v
        → IsJudgedBehind done sheet (judging_state a turn logging) (line ∷ ahead) v
    moved_judged done v judged =
        let after : JudgingState = judging_state now (turn_by p (step ∷ drop 1 turn) (drop 1 turn)) (logging_by p logging) in
        let same : judging_state now next may ≡ after = ap (λ (t : List Step). judging_state now t may) next-split
        ∙ ap (judging_state now (turn_by p (step ∷ drop 1 turn) (drop 1 turn))) may_is in
        let here = subst (λ (x : JudgingState). IsJudgedBehind (done + 1) sheet x ahead v) same judged in
        subst (λ (t : List Step). IsJudgedBehind done sheet (judging_state a t logging) (line ∷ ahead) v) (sym split)
        (judged_on sheet (judging_state a (step ∷ drop 1 turn) logging) line ahead after
        (goes_passes (begins_entry line) sheet a step (drop 1 turn) logging line ahead now p goes is) done v here)

    pub moved_ends : EndsPlacing turn → EndsPlacing next
    moved_ends ends =
        subst EndsPlacing (sym next-split) (goes_ends (begins_entry line) sheet a step (drop 1 turn) logging line ahead
        now p goes is (subst EndsPlacing split ends))

    pub moved_fit : (s : Dimensions) → All (IsStepOf s) turn → All (IsStepOf s) next
    moved_fit s fit = subst (All (IsStepOf s)) (sym next-split)
        (goes_fit (begins_entry line) sheet a step (drop 1 turn) logging line ahead now s p
        (subst (All (IsStepOf s)) split fit))

    pub moved_within : (n : ℕ) → IsShape sheet.script.shape → IsAccountWithin sheet.script.shape n a → IsAccountWithin sheet.script.shape (n + 1) now
    moved_within n shape within = goes_within (begins_entry line) sheet a step (drop 1 turn) logging line ahead now n p goes is shape within

-- a slice of all but the first
pub rest_is : (turn : List Step) → take (length turn - 1) (drop 1 turn) ≡ drop 1 turn
rest_is [] = let none : List Step = [] in take_all (length none - 1) none (omega arith)
rest_is (x ∷ xs) = take_all (length (x ∷ xs) - 1) xs (omega arith)
