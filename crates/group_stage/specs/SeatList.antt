-- Seats in one list.
use Rattle.std.specs.Prelude.{ℕ, List}
use Rattle.group_stage.specs.declared.seat.Seat.{Seat}

-- the seats, and how many were made
pub record SeatList : Type 0 where
  pub made : ℕ
  pub seats : List Seat
