-- What replicas keep of the log: where one has every settled update of its partition, in a fine history, no logged
-- update is undone there.
use Rattle.std.specs.Prelude.{ℕ, ◌≡◌, ◌<◌, ◌≤◌, List, [], length, take}
use Rattle.group_types.specs.Dimensions.{Dimensions}
use Rattle.group_types.specs.Lists.{at}
use Rattle.group_message.specs.declared.update.Update.{Update}
use Rattle.group_calls.specs.declared.event.Event.{Event}
use Rattle.group_run.specs.Headline.{IsRun, KeepsAll}
use Rattle.group_run.specs.Replica.{Replica, items_after, last_of}
use Rattle.group_run.specs.World.{AskedCall, after}
use Rattle.group_run.specs.History.{history}
use Rattle.law_updates.specs.Fine.{Fine}
use Rattle.law_log.specs.Book.{book_of}
use Rattle.law_log.specs.Stands.{StandsAlways}

-- a replica has every settled update of its partition, in a fine history, and the items of what it has applied
pub record ReplicaStands (s : Dimensions) (calls : List AskedCall) (settled : List Update) (d : ℕ) (r : Replica) : Type 0 where
  pub within : r.applied ≤ length settled
  pub reached : length settled ≤ last_of r
  pub prolongs : take (length settled) (history settled r) ≡ settled
  pub fine : Fine s calls d r.applied (history settled r)
  pub items : r.items ≡ items_after [] (take r.applied settled)

-- so it keeps all that is logged
abbrev pub ReplicasKeepAll : Type 0
ReplicasKeepAll = (s : Dimensions) → StandsAlways s → (es : List Event) → IsRun s es → (d : ℕ) → d < s.k → (r : Replica)
    → ReplicaStands s (book_of s es).issued (at [] (book_of s es).history.settled d) d r → KeepsAll (after s es) d r
