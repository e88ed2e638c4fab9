-- Of which calls the tickets are, and what an event logs.
use Rattle.std.specs.Prelude.{◌≢◌, ◌<◌, List, All, AllPairs}
use Rattle.group_types.specs.Dimensions.{Dimensions}
use Rattle.group_types.specs.Lists.{at}
use Rattle.group_calls.specs.Turns.{name_of}
use Rattle.group_calls.specs.declared.event.Event.{Event}
use Rattle.group_run.specs.Headline.{IsRun, MayCome}
use Rattle.group_run.specs.World.{World, after, step}

-- each ticket is of a call that was asked, and no two are of one call
pub record TicketsStand (w : World) : Type 0 where
  pub asked : All (λ t. t.name.call < at 0 w.asked t.name.caller) w.tickets
  pub differ : AllPairs (λ t u. t.name ≢ u.name) w.tickets

-- so it is along every run
abbrev pub TicketsAlways : Type 0
TicketsAlways = (s : Dimensions) (es : List Event) → IsRun s es → TicketsStand (after s es)

-- the entries that an event logs are of different calls
abbrev pub EntriesAlways : Type 0
EntriesAlways = (s : Dimensions) (es : List Event) (e : Event) → IsRun s es → MayCome (after s es) e
    → AllPairs (λ a b. name_of a ≢ name_of b) (step (after s es) e).turn.logged
