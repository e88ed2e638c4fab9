-- A line is judged for the step in turn.
use Rattle.std.proofs.Common.{◌≢◌, inl, inr, ℕ, Bool, false, List, ◌∷◌, refl, subst}
use Rattle.group_types.specs.Dimensions.{Dimensions}
use Rattle.transcript_text.specs.declared.place.Place.{Place}
use Rattle.run_verify.specs.Courses.{HasFoundOn, IsMet, judging_state}
use Rattle.run_verify.specs.Passing.{Account, JudgingState, PassesBy, after_answer, with_shown}
use Rattle.run_verify.specs.Sheet.{Sheet}
use Rattle.run_verify.specs.declared.pass.Found.TheVariants as found
use Rattle.run_verify.specs.declared.step.Step.{Step}
use Rattle.run_verify.specs.declared.step.Step.TheVariants.{Make, Deliveries, Look, Placing}

unmet : (sheet : Sheet) (a : Account) (step : Step) (steps : List Step) (logging : Bool) (line : List ℕ) (ahead : List (List ℕ)) → step ≢ Placing
    → ((next : Account) → ¬ (IsMet sheet.script.shape a step line ahead next)) → (next : JudgingState)
    → ¬ (PassesBy false sheet (judging_state a (step ∷ steps) logging) line ahead next)
unmet sheet a (Make event) steps logging line ahead other none next (answer, answers, same) = none (after_answer a event answer) (answer, answers, refl)
unmet sheet a Deliveries steps logging line ahead other none next (n, low, is, same) = none a ((n, low, is), refl)
unmet sheet a (Look p run) steps logging line ahead other none next (inl (tells, same)) = none (with_shown a) (inl (tells, refl))
unmet sheet a (Look p run) steps logging line ahead other none next (inr (lost, same)) = none a (inr (lost, refl))
unmet sheet a Placing steps logging line ahead other none next passes = absurd (other refl)

module _ (s : Dimensions) (places : List Place) (a : Account) (step : Step) (logging : Bool) (line : List ℕ) (ahead : List (List ℕ)) where
  -- a line that doesn't tell what the step asks for
  pub meets_nothing : (now : Account) → step ≢ Placing → ((next : Account) → ¬ (IsMet s a step line ahead next))
      → HasFoundOn false s places a step logging line ahead now found.Fails
  meets_nothing now other none sheet steps of =
      unmet sheet a step steps logging line ahead other (λ next is. none next (subst (λ (d : Dimensions). IsMet d a step line ahead next) of.shape is))
