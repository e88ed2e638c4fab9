-- What is unfinished at a head: exactly what stands in its log.
use Rattle.std.specs.Prelude.{ℕ, ◌≡◌, ◌<◌, ◌≤◌, ◌↔◌, List, Some, Contains}
use Rattle.group_types.specs.Dimensions.{Dimensions}
use Rattle.group_types.specs.declared.process.ProcessId.{ProcessId}
use Rattle.group_message.specs.declared.update.Update.{Update}
use Rattle.group_calls.specs.declared.event.Event.{Event}
use Rattle.group_run.specs.Applying.{head_at, replica_of}
use Rattle.group_run.specs.Causes.{IsReady, IsUp}
use Rattle.group_run.specs.Headline.{IsRun}
use Rattle.group_run.specs.Meaning.{IsUnfinished, Lives, process_of}
use Rattle.group_run.specs.Process.{Head}
use Rattle.group_run.specs.Replica.{last_of}
use Rattle.group_run.specs.World.{World, after}

-- an update is unfinished at this head exactly where it stands in its log, and where its number is above the settled
-- one and was issued
pub record LogIsUnfinished (w : World) (p : ProcessId) (d : ℕ) (h : Head) : Type 0 where
  pub waits : (u : Update) → Contains (replica_of (process_of w p) d).log u → IsUnfinished w p d u.number h
  pub stands : (n : ℕ) → IsUnfinished w p d n h → (u : Update) × Contains (replica_of (process_of w p) d).log u × (u.number ≡ n)
  pub numbers : (n : ℕ) → IsUnfinished w p d n h ↔ (((replica_of (process_of w p) d).applied < n) × (n ≤ last_of (replica_of (process_of w p) d)))

-- so it is at every living process of what it heads, and a process that is ready heads the partition
pub record UnfinishedIsLogged (w : World) : Type 0 where
  pub heads : (p : ProcessId) (d : ℕ) (h : Head) → Lives w p → d < w.shape.k → head_at (process_of w p) d ≡ Some h → LogIsUnfinished w p d h
  pub ready : (p : ProcessId) (d : ℕ) → IsUp w p → IsReady w p d → d < w.shape.k → (h : Head) × (head_at (process_of w p) d ≡ Some h) × LogIsUnfinished w p d h

-- at every moment of every run
abbrev pub UnfinishedAlways : Type 0
UnfinishedAlways = (s : Dimensions) (es : List Event) → IsRun s es → UnfinishedIsLogged (after s es)
