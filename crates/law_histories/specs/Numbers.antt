-- What of the headline is told of numbers alone: no logged update is undone, and logs are short.
use Rattle.std.specs.Prelude.{ℕ, suc, ◌≡◌, ◌<◌, ◌≤◌, ◌+◌, List, [], length, slice_get, Some}
use Rattle.group_types.specs.Dimensions.{Dimensions}
use Rattle.group_types.specs.Lists.{at}
use Rattle.group_types.specs.declared.process.ProcessId.TheVariants.{DataNode, ParityNode}
use Rattle.group_message.specs.declared.update.Update.{Update}
use Rattle.group_calls.specs.declared.event.Event.{Event}
use Rattle.group_run.specs.Applying.{replica_of}
use Rattle.group_run.specs.Headline.{IsRun, LogsAreShort}
use Rattle.group_run.specs.History.{history_of}
use Rattle.group_run.specs.Meaning.{Lives, process_of}
use Rattle.group_run.specs.Replica.{Replica, last_of}
use Rattle.group_run.specs.World.{World, after}

-- a replica has applied or keeps in its log, by consecutive numbers, every settled update of the partition,
-- and no two replicas differ in one
pub record KeepsNumbers (settled : List Update) (r : Replica) : Type 0 where
  pub applied : r.applied ≤ length settled
  pub reached : length settled ≤ last_of r
  pub numbers : (j : ℕ) (u : Update) → slice_get r.log j ≡ Some u → u.number ≡ suc (r.applied + j)
  pub log : (j : ℕ) (u : Update) → r.applied + j < length settled → slice_get r.log j ≡ Some u → slice_get settled (r.applied + j) ≡ Some u

-- so it is at every living process; a living data process has applied all
pub record NumbersKept (w : World) (settled : List (List Update)) : Type 0 where
  pub at_data : (d : ℕ) → Lives w (DataNode d) → KeepsNumbers (at [] settled d) (replica_of (process_of w (DataNode d)) d)
  pub all_applied : (d : ℕ) → Lives w (DataNode d) → (replica_of (process_of w (DataNode d)) d).applied ≡ length (at [] settled d)
  pub at_parity : (i d : ℕ) → d < w.shape.k → Lives w (ParityNode i) → KeepsNumbers (at [] settled d) (replica_of (process_of w (ParityNode i)) d)

-- along every run
abbrev pub NumbersKeptAlways : Type 0
NumbersKeptAlways = (s : Dimensions) (es : List Event) → IsRun s es → NumbersKept (after s es) (history_of s es).settled

abbrev pub LogsShortAlways : Type 0
LogsShortAlways = (s : Dimensions) (es : List Event) → IsRun s es → LogsAreShort (after s es)
