-- What judging the lines for the places comes to.
use Rattle.std.specs.Prelude.{ℕ, ◌≡◌, List, [], ◌∷◌, Option, Some, None}
use Rattle.group_types.specs.Dimensions.{Dimensions}
use Rattle.run_verify.specs.Passing.{Account, FailsAt, JudgingState, PassAll, on_to}
use Rattle.run_verify.specs.Sheet.{Sheet}
use Rattle.run_verify.specs.declared.change.Change.{Change}
use Rattle.run_verify.specs.declared.step.Step.TheVariants.{Placing}

-- the places are in turn, and are all that is left
abbrev pub placing : Account → JudgingState
placing a = on_to a (Placing ∷ [])

-- all lines pass, and nothing but the number of places is told anew
abbrev pub AllPassPlacing : Sheet → Account → List (List ℕ) → Type 0
AllPassPlacing sheet a lines = (b : Account) × PassAll sheet (placing a) lines b × (b.entries ≡ a.entries) × (b.shown ≡ a.shown)

-- all lines pass, or this is the first that fails
abbrev pub IsPlacedFrom : Sheet → Account → List (List ℕ) → Option ℕ → Type 0
IsPlacedFrom sheet a lines None = AllPassPlacing sheet a lines
IsPlacedFrom sheet a lines (Some n) = FailsAt sheet n (placing a) lines

-- so it is for every sheet of this shape and every account with these changes that has so many places
abbrev pub ArePlacedFrom : Dimensions → List (List Change) → ℕ → List (List ℕ) → Option ℕ → Type 0
ArePlacedFrom s changes placed lines found = (sheet : Sheet) (a : Account) → sheet.script.shape ≡ s
    → a.changes ≡ changes → a.placed ≡ placed → IsPlacedFrom sheet a lines found
