-- What the nodes are after a stage was closed.
use Rattle.std.specs.Prelude.{◌≡◌, List, map}
use Rattle.group_types.specs.Dimensions.{Dimensions}
use Rattle.group_calls.specs.declared.event.Event.{Event}
use Rattle.group_run.specs.Headline.{IsRun}
use Rattle.group_run.specs.World.{after}
use Rattle.group_core.specs.Seats.{AreSeated, nodes_of}
use Rattle.group_node.specs.Standing.{NodeStanding}
use Rattle.group_stage.specs.Kept.{IsWholeSchedule}
use Rattle.group_stage.specs.Seated.{view_of}
use Rattle.group_stage.specs.declared.seat.Seat.{Seat}

-- the nodes are those of the run of a schedule, and the schedule is exactly that of the seats
pub record HasClosed (s : Dimensions) (seats : List Seat) (list : List NodeStanding) : Type 0 where
  pub schedule : List Event
  pub run : IsRun s schedule
  pub whole : IsWholeSchedule s schedule (map view_of seats)
  pub seated : AreSeated s list
  pub nodes : nodes_of list ≡ (after s schedule).nodes
