-- The seats of a stage.
use Rattle.std.specs.Prelude.{◌≡◌, ℕ, List, [], slice_get, Some}
use Rattle.group_stage.specs.Seated.{IsOf, view_of}
use Rattle.group_stage.specs.declared.seat.Seat.{Seat}
use Rattle.group_stage.specs.declared.stage.Stage.{Stage}

-- a new seat of the stage, with this caller number: it has made no event, and all its counts are 0
pub record IsNew (stage : Stage) (seat : Seat) (caller : ℕ) : Type 0 where
  pub of_stage : IsOf stage seat
  pub number : seat.caller ≡ caller
  pub asks : seat.asks ≡ 0
  pub calls : (view_of seat).calls ≡ 0
  pub made : (view_of seat).made ≡ []
  pub met : (view_of seat).met ≡ []
  pub cleared : (view_of seat).cleared ≡ []

-- the seat in each place has the place's number for its caller number
abbrev pub AreNew : Stage → List Seat → Type 0
AreNew stage seats = (i : ℕ) (seat : Seat) → slice_get seats i ≡ Some seat → IsNew stage seat i
