-- A group that a run led to.
use Rattle.std.specs.Prelude.{◌≡◌, List}
use Rattle.group_calls.specs.declared.event.Event.{Event}
use Rattle.group_run.specs.Headline.{Headline, IsRun}
use Rattle.group_run.specs.World.{World, after}
use Rattle.group_ledger.specs.Books.{Books}
use Rattle.group_core.specs.Seats.{Seats}

-- events that led to the group
pub record HasRun (w : World) : Type 0 where
  pub events : List Event
  pub run : IsRun w.shape events
  pub is : w ≡ after w.shape events

-- events that led to the group, and the headline of their run
pub record HasHeadline (w : World) : Type 0 where
  pub led : HasRun w
  pub headline : Headline w.shape led.events

-- the nodes and what is kept beside them, as a group
abbrev pub group_from : Seats → Books → World
group_from v b = record { shape = v.shape; nodes = v.nodes; events = b.events; asked = b.asked; log = b.log; places = b.places; tickets = b.tickets }

-- the nodes and the books are of one group, and a run led to it
pub record IsGroup (v : Seats) (b : Books) : Type 0 where
  pub shape : v.shape ≡ b.shape
  pub run : HasRun (group_from v b)
