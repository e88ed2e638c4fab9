-- The replica that has a part of a history, and an update that comes behind all of it.
use Rattle.std.specs.Prelude.{ℕ, ◌≡◌, ◌<◌, ◌≤◌, List, [], length, take, drop, Contains}
use Rattle.group_message.specs.declared.update.Update.{Update}
use Rattle.group_run.specs.Replica.{Replica, items_after}
use Rattle.group_run.specs.World.{AskedCall}

-- a replica has applied the first a updates of a history, and has the others in its log
pub record IsReplicaOf (a : ℕ) (h : List Update) (r : Replica) : Type 0 where
  pub applied : r.applied ≡ a
  pub within : a ≤ length h
  pub items : r.items ≡ items_after [] (take a h)
  pub log : r.log ≡ drop a h

-- the call comes behind these, among those of its caller
abbrev pub ComesBehind : List AskedCall → AskedCall → Type 0
ComesBehind calls c = (other : AskedCall) → Contains calls other → other.name.caller ≡ c.name.caller → other.name.call < c.name.call
