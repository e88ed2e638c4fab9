-- How high numbers rise: no higher than the number of events.
use Rattle.std.specs.Prelude.{ℕ, ◌≤◌, List, All}
use Rattle.group_types.specs.Dimensions.{Dimensions}
use Rattle.group_types.specs.Lists.{at}
use Rattle.group_types.specs.declared.process.ProcessId.{ProcessId}
use Rattle.group_calls.specs.declared.event.Event.{Event}
use Rattle.group_run.specs.Headline.{IsRun}
use Rattle.group_run.specs.Meaning.{Lives, process_of}
use Rattle.group_run.specs.Replica.{last_of}
use Rattle.group_run.specs.World.{World, after}

-- no update of a living replica, no session of a living leader and no call has a number above that of the events
pub record NumbersAreLow (w : World) : Type 0 where
  pub updates : (p : ProcessId) → Lives w p → All (λ r. last_of r ≤ w.events) (process_of w p).replicas
  pub sessions : (p : ProcessId) → Lives w p → (process_of w p).as_leader.last_session ≤ w.events
  pub calls : (caller : ℕ) → at 0 w.asked caller ≤ w.events

-- so it is along every run
abbrev pub NumbersLowAlways : Type 0
NumbersLowAlways = (s : Dimensions) (es : List Event) → IsRun s es → NumbersAreLow (after s es)
