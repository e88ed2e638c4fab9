-- What holds of the lines behind a line holds of all.
use Rattle.std.proofs.Common.{◌≡◌, ◌≢◌, ◌⊎◌, inl, inr, ◌≤◌, ◌+◌, ◌==◌, ℕ, zero, suc, Bool, true, false, List, [], ◌∷◌}
use Rattle.std.proofs.Common.{Some, None, length, refl, sym, subst, arith}
use Rattle.std.proofs.lemmas.List.Elements.{All-tail}
use Rattle.std.proofs.lemmas.List.Splits.{length-slice_split}
use Rattle.std.proofs.lemmas.List.Sums.{count_by-le-length}
use Rattle.std.specs.List.{slice_split}
use Rattle.std.specs.Prelude.{All}
use Rattle.group_types.specs.Dimensions.{Dimensions}
use Rattle.group_types.specs.Shape.{IsShape}
use Rattle.scenario_run.specs.Lines.{lines_of, without_empty_last}
use Rattle.run_verify.specs.Courses.{HasFoundBy, IsAccountWithin, IsJudgedBehind, IsPlacedBehind, judging_state, logging_by, sheet_on, turn_by}
use Rattle.run_verify.specs.Judging.{IsStepOf}
use Rattle.run_verify.specs.Passing.{Account, FailsAt, JudgingState, PassesBy, begins_entry}
use Rattle.run_verify.specs.Placings.{ArePlacedFrom, placing}
use Rattle.run_verify.specs.Plain.{EndsPlacing}
use Rattle.run_verify.specs.Sheet.{Sheet}
use Rattle.run_verify.specs.declared.pass.Found.{Found}
use Rattle.run_verify.specs.declared.pass.Found.TheVariants as found
use Rattle.run_verify.specs.declared.step.Step.{Step}
use Rattle.run_verify.specs.declared.step.Step.TheVariants.{Placing}
use Rattle.run_verify.specs.declared.verdict.Verdict.{Verdict}
use Rattle.run_verify.specs.declared.verdict.Verdict.TheVariants.{Verified, Refused}
use Rattle.run_verify.proofs.Within.{within_next}

-- a line passed, behind which a next is judged
abbrev pub Goes : Found → Type 0
Goes p = (p ≢ found.Places) × (p ≢ found.Fails)

-- what holds where a line passes
module _ (sheet : Sheet) (s : JudgingState) (line : List ℕ) (ahead : List (List ℕ)) (next : JudgingState) where
  -- what is judged of the lines behind it is judged of all
  pub judged_on : PassesBy (begins_entry line) sheet s line ahead next → (done : ℕ) (v : Verdict)
      → IsJudgedBehind (done + 1) sheet next ahead v → IsJudgedBehind done sheet s (line ∷ ahead) v
  judged_on first done (Verified many shows) (b, pass, entries, shown) = (b, (next, first, pass), entries, shown)
  judged_on first done (Refused n) (zero, is, fails) = absurd fails
  judged_on first done (Refused n) (suc m, is, fails) = (suc (suc m), omega (arith, is), (next, first, fails))

-- the first line fails
pub judged_fails : (sheet : Sheet) (s : JudgingState) (line : List ℕ) (ahead : List (List ℕ)) (done : ℕ)
    → ((next : JudgingState) → ¬ (PassesBy (begins_entry line) sheet s line ahead next))
    → IsJudgedBehind done sheet s (line ∷ ahead) (Refused (done + 1))
judged_fails sheet s line ahead done none = (1, refl, none)

some-steps : (steps : List Step) → EndsPlacing steps → steps ≢ []
some-steps [] ends none = absurd ends
some-steps (step ∷ steps) ends none = cc none

-- the first line is lacking
pub judged_lacks : (sheet : Sheet) (a : Account) (steps : List Step) (logging : Bool) (lines : List (List ℕ)) (done : ℕ)
    → EndsPlacing steps → lines ≡ [] → IsJudgedBehind done sheet (judging_state a steps logging) lines (Refused (done + 1))
judged_lacks sheet a steps logging lines done ends none =
    subst (λ (ls : List (List ℕ)). IsJudgedBehind done sheet (judging_state a steps logging) ls (Refused (done + 1)))
    (sym none) (1, refl, some-steps steps ends)

ends-behind : (step : Step) (steps : List Step) → step ≢ Placing → EndsPlacing (step ∷ steps) → EndsPlacing steps
ends-behind Placing steps other ends = absurd (other refl)
ends-behind asked steps other ends = ends

-- a line passed that isn't for the places
module _ (is_log : Bool) (sheet : Sheet) (a : Account) (step : Step) (steps : List Step) (logging : Bool)
    (line : List ℕ) (ahead : List (List ℕ)) (now : Account) where
  pub goes_passes : (p : Found) → Goes p → HasFoundBy is_log sheet a step steps logging line ahead now p
      → PassesBy is_log sheet (judging_state a (step ∷ steps) logging) line ahead (judging_state now (turn_by p (step ∷ steps) steps) (logging_by p logging))
  goes_passes found.Entry goes is = is.1
  goes_passes found.Answer goes is = is.1
  goes_passes found.Over goes is = is.1
  goes_passes found.Places goes is = absurd (goes.0 refl)
  goes_passes found.Fails goes is = absurd (goes.1 refl)

  which : (p : Found) → Goes p → HasFoundBy is_log sheet a step steps logging line ahead now p → (is_log ≡ true) ⊎ (step ≢ Placing)
  which found.Entry goes is = inl is.0
  which found.Answer goes is = inr is.0
  which found.Over goes is = inr is.0
  which found.Places goes is = absurd (goes.0 refl)
  which found.Fails goes is = absurd (goes.1 refl)

  pub goes_ends : (p : Found) → Goes p → HasFoundBy is_log sheet a step steps logging line ahead now p
      → EndsPlacing (step ∷ steps) → EndsPlacing (turn_by p (step ∷ steps) steps)
  goes_ends found.Answer goes is ends = ends-behind step steps is.0 ends
  goes_ends found.Over goes is ends = ends-behind step steps is.0 ends
  goes_ends l goes is ends = ends

  pub goes_fit : (s : Dimensions) (p : Found) → All (IsStepOf s) (step ∷ steps) → All (IsStepOf s) (turn_by p (step ∷ steps) steps)
  goes_fit s found.Answer all = All-tail (IsStepOf s) step steps all
  goes_fit s found.Over all = All-tail (IsStepOf s) step steps all
  goes_fit s l all = all

  pub goes_within : (n : ℕ) (p : Found) → Goes p → HasFoundBy is_log sheet a step steps logging line ahead now p
      → IsShape sheet.script.shape → IsAccountWithin sheet.script.shape n a → IsAccountWithin sheet.script.shape (n + 1) now
  goes_within n p goes is shape within =
      within_next sheet shape n a within is_log step steps logging line ahead
      (judging_state now (turn_by p (step ∷ steps) steps) (logging_by p logging)) (which p goes is) (goes_passes p goes is)

-- ---- the places are in turn

module _ (sheet : Sheet) (a : Account) (logging : Bool) (line : List ℕ) (ahead : List (List ℕ)) (other : begins_entry line ≡ false) where
  one-step : List Step
  one-step = Placing ∷ []

  turned : (next : JudgingState) → PassesBy (begins_entry line) sheet (placing a) line ahead next
      → PassesBy (begins_entry line) sheet (judging_state a one-step logging) line ahead next
  unfolding one-step
  turned next is = subst (λ (b : Bool). PassesBy b sheet (judging_state a (Placing ∷ []) logging) line ahead next)
      (sym other) (subst (λ (b : Bool). PassesBy b sheet (placing a) line ahead next) other is)

  turned-back : (next : JudgingState) → PassesBy (begins_entry line) sheet (judging_state a one-step logging) line ahead next
      → PassesBy (begins_entry line) sheet (placing a) line ahead next
  unfolding one-step
  turned-back next is = subst (λ (b : Bool). PassesBy b sheet (placing a) line ahead next) (sym other)
      (subst (λ (b : Bool). PassesBy b sheet (judging_state a (Placing ∷ []) logging) line ahead next) other is)

  fails-turned : (m : ℕ) → FailsAt sheet m (placing a) (line ∷ ahead) → FailsAt sheet m (judging_state a one-step logging) (line ∷ ahead)
  fails-turned zero fails = absurd fails
  fails-turned (suc zero) fails = λ next is. fails next (turned-back next is)
  fails-turned (suc (suc m)) (next, first, fails) = (next, turned next first, fails)

  judged-turned : (done : ℕ) (v : Verdict) → IsJudgedBehind done sheet (placing a) (line ∷ ahead) v
      → IsJudgedBehind done sheet (judging_state a one-step logging) (line ∷ ahead) v
  judged-turned done (Verified many shows) (b, (next, first, pass), entries, shown) = (b, (next, turned next first, pass), entries, shown)
  judged-turned done (Refused n) (m, is, fails) = (m, is, fails-turned m fails)

  -- whether lines of the log may come doesn't matter then
  pub judged_places : (step : Step) (steps : List Step) → step ≡ Placing → EndsPlacing (step ∷ steps)
      → (done : ℕ) (v : Verdict) → IsJudgedBehind done sheet (placing a) (line ∷ ahead) v
      → IsJudgedBehind done sheet (judging_state a (step ∷ steps) logging) (line ∷ ahead) v
  unfolding one-step
  judged_places step steps is ends done v judged =
      let last : steps ≡ [] = subst (λ (x : Step). EndsPlacing (x ∷ steps)) is ends in
      let both : step ∷ steps ≡ Placing ∷ [] = cc (is, last) in
      subst (λ (turn : List Step). IsJudgedBehind done sheet (judging_state a turn logging) (line ∷ ahead) v) (sym both) (judged-turned done v judged)

-- a line that fails is one of them, or the one behind the last
fails_within : (sheet : Sheet) (n : ℕ) (s : JudgingState) (lines : List (List ℕ)) → FailsAt sheet n s lines → n ≤ length lines + 1
fails_within sheet zero s lines fails = absurd fails
fails_within sheet (suc zero) s lines fails = omega arith
fails_within sheet (suc (suc n)) s [] fails = absurd fails
fails_within sheet (suc (suc n)) s (line ∷ lines) (next, first, fails) = let few = fails_within sheet (suc n) next lines fails in omega (arith, few)

shorter-last : (lines : List (List ℕ)) → length (without_empty_last lines) ≤ length lines
shorter-last [] = omega arith
shorter-last ([] ∷ []) = omega arith
shorter-last ((b ∷ bs) ∷ []) = omega arith
shorter-last (line ∷ next ∷ lines) = let few = shorter-last (next ∷ lines) in omega (arith, few)

-- a text has hardly more lines than bytes
pub lines-few : (text : List ℕ) → length (lines_of text) ≤ length text + 1
lines-few text =
    let is_end : ℕ → Bool = λ b. b == 10 in
    let short = shorter-last (slice_split is_end text) in
    let many = length-slice_split is_end text in
    let few = count_by-le-length is_end text in
    omega (arith, short, many, few)

-- so the number of a line that fails is not above this
pub place_fails : (s : Dimensions) (a : Account) (text : List ℕ) (n : ℕ) → a.placed ≡ 0
    → ArePlacedFrom s a.changes 0 (lines_of text) (Some n) → n ≤ length text + 2
place_fails s a text n none found =
    let sheet : Sheet = sheet_on s [] (lines_of text) in
    let fails = found sheet a refl refl none in
    let bound = fails_within sheet n (placing a) (lines_of text) fails in
    let few = lines-few text in
    omega (arith, bound, few)

-- what is judged of the places on each sheet of the group
pub placed_verified : (s : Dimensions) (a : Account) (lines : List (List ℕ)) (done : ℕ) → a.placed ≡ 0
    → ArePlacedFrom s a.changes 0 lines None → IsPlacedBehind done s a lines (Verified a.entries a.shown)
placed_verified s a lines done none found sheet shape = found sheet a shape refl none

pub placed_refused : (s : Dimensions) (a : Account) (lines : List (List ℕ)) (done n : ℕ) → a.placed ≡ 0
    → ArePlacedFrom s a.changes 0 lines (Some n) → IsPlacedBehind done s a lines (Refused (done + n))
placed_refused s a lines done n none found sheet shape = (n, refl, found sheet a shape refl none)
