-- What an order that a process fail makes of a seat.
use Rattle.std.specs.Prelude.{ℕ, ◌≡◌, ◌++◌, Option, Some, None, [], ◌∷◌}
use Rattle.group_types.specs.declared.process.ProcessId.{ProcessId}
use Rattle.memc_proto.specs.declared.end.FailEnd.{FailEnd}
use Rattle.memc_proto.specs.declared.end.FailEnd.TheVariants as ends
use Rattle.group_calls.specs.declared.event.Answer.{Answer}
use Rattle.group_calls.specs.declared.event.Answer.TheVariants as says
use Rattle.group_calls.specs.declared.event.Event.TheVariants.{Fail}
use Rattle.group_stage.specs.Kept.{most_calls}
use Rattle.group_stage.specs.Seated.{view_of}
use Rattle.group_stage.specs.declared.seat.Seat.{Seat}
use Rattle.group_stage.specs.declared.view.Numbered.{Numbered}
use Rattle.stage_caller.specs.Calling.{IsSameSeat, MadeNoEvent}

-- how an order ends that made its event, by the answer
abbrev pub failed_to : Answer → Option FailEnd
failed_to says.Done = Some ends.Made
failed_to says.AlreadyDead = Some ends.AlreadyDead
failed_to _ = None

-- an order that made its event is answered so
abbrev pub IsFailAnswer : Answer → Type 0
IsFailAnswer answer = (end : FailEnd) × (failed_to answer ≡ Some end)

-- the seat made one event, and by that the order ends so
pub record HasFailed (before : Seat) (p : ProcessId) (keep : ℕ) (end : FailEnd) (after : Seat) : Type 0 where
  pub same : IsSameSeat before after
  pub event : Numbered
  pub made : (view_of after).made ≡ (view_of before).made ++ event ∷ []
  pub is : event.event ≡ Fail p keep
  pub answered : failed_to event.answer ≡ Some end

-- an order that was taken, by its end
abbrev pub IsFailed : Seat → ProcessId → ℕ → FailEnd → Seat → Type 0
IsFailed before p keep ends.Made after = HasFailed before p keep ends.Made after
IsFailed before p keep ends.AlreadyDead after = HasFailed before p keep ends.AlreadyDead after
IsFailed before p keep ends.Worn after = MadeNoEvent before after × ((view_of after).calls ≡ most_calls)
IsFailed before p keep ends.Off after = ⊥
IsFailed before p keep ends.NoProcess after = ⊥
