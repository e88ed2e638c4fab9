-- A seat of a stage, as the contracts of a call see it.
use Rattle.std.specs.Prelude.{◌≡◌, ℕ, List, Result, Ok, Err}
use Rattle.std.specs.declared.alloc.AllocError.{AllocError}
use Rattle.group_types.specs.Dimensions.{Dimensions}
use Rattle.group_types.specs.Each.{Each}
use Rattle.group_stage.specs.declared.answer.StageAnswer.{StageAnswer}
use Rattle.group_stage.specs.declared.answer.StageAnswer.TheVariants.{Busy, Made, Worn}
use Rattle.group_stage.specs.declared.seat.Seat.{Seat}
use Rattle.group_stage.specs.declared.stage.Stage.{Stage}
use Rattle.group_stage.specs.declared.view.View.{View}

-- what a seat knows
abbrev pub view_of : Seat → View
view_of seat = seat.raw.me.0

-- the shape of its group, and how many callers it was made for
abbrev pub shape_of : Stage → Dimensions
shape_of stage = stage.plan.shape

abbrev pub callers_of : Stage → ℕ
callers_of stage = stage.plan.callers

-- a seat of this stage
pub record IsOf (stage : Stage) (seat : Seat) : Type 0 where
  pub table : seat.raw.table_id ≡ stage.table.shared.table_id
  pub shape : seat.raw.me.0.shape ≡ stage.plan.shape

-- 1 for an event that was made
abbrev pub one_made : StageAnswer → ℕ
one_made (Made a) = 1
one_made (Busy p) = 0
one_made Worn = 0

abbrev pub made_in : Result StageAnswer AllocError → ℕ
made_in (Ok a) = one_made a
made_in (Err e) = 0

-- all are seats of this stage
abbrev pub AreSeatsOf : Stage → List Seat → Type 0
AreSeatsOf stage seats = Each (IsOf stage) seats
