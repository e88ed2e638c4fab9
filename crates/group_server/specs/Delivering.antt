-- What a delivery makes of its seat.
use Rattle.std.specs.Prelude.{ℕ, ◌≡◌, ◌++◌, [], ◌∷◌}
use Rattle.group_types.specs.declared.process.ProcessId.{ProcessId}
use Rattle.group_calls.specs.declared.event.Answer.TheVariants.{Done}
use Rattle.group_calls.specs.declared.event.Event.TheVariants.{Deliver}
use Rattle.group_stage.specs.Seated.{view_of}
use Rattle.group_stage.specs.declared.seat.Seat.{Seat}

-- the seat made one event: a message between two processes was received
pub record HasDelivered (before after : Seat) : Type 0 where
  pub sender : ProcessId
  pub receiver : ProcessId
  pub number : ℕ
  pub made : (view_of after).made ≡ (view_of before).made ++ record { number = number; event = Deliver sender receiver; answer = Done } ∷ []
