-- What a group keeps of calls, for those that ask later: the last outcome of each caller, the calls that
-- are held, and the word of each node whether the group is down.
use Rattle.std.specs.Prelude.{ℕ, ◌≡◌, ◌<◌, ◌≤◌, ◌-◌, nat_lt, ◌==◌, List, [], ◌∷◌, take, slice_get, Option, Some, None, Contains, if◌then◌else◌}
use Rattle.group_types.specs.declared.process.ProcessId.{ProcessId}
use Rattle.group_message.specs.declared.kept.Kept.{Kept}
use Rattle.group_message.specs.declared.update.Update.{Update}
use Rattle.group_types.specs.Lists.{at}
use Rattle.group_types.specs.Names.{IsProcess}
use Rattle.group_types.specs.declared.process.ProcessId.TheVariants.{DataNode, ParityNode}
use Rattle.group_run.specs.Applying.{replica_of, held_at}
use Rattle.group_run.specs.Asking.{reply_from}
use Rattle.group_run.specs.Meaning.{Logged, Lives, updates_of, process_of}
use Rattle.group_run.specs.Process.{Held}
use Rattle.group_run.specs.Replica.{Replica, callers}
use Rattle.group_run.specs.World.{World, dead_nodes, process_node}

-- the last of some updates that is a caller's
abbrev pub last_by : ℕ → Option Logged → List Logged → Option Logged
last_by caller last [] = last
last_by caller last (u ∷ us) = last_by caller (if u.entry.caller == caller then Some u else last) us

-- what is kept is the call and the reply of an update, or nothing where there is none
abbrev pub IsKept : Option Logged → Option Kept → Type 0
IsKept None None = Unit {0}
IsKept (Some u) (Some kept) = (kept.call ≡ u.entry.call) × (reply_from kept.outcome ≡ u.entry.reply)
IsKept None (Some kept) = ⊥
IsKept (Some u) None = ⊥

-- a replica keeps of each caller its last applied update
abbrev pub KeepsLast : World → ℕ → Replica → Type 0
KeepsLast w d r = (caller : ℕ) → caller < callers → IsKept (last_by caller None (take r.applied (updates_of w d))) (at None r.kept caller)

-- every replica of a living process does
pub record KeptIsLast (w : World) : Type 0 where
  pub at_data : (d : ℕ) → Lives w (DataNode d) → KeepsLast w d (replica_of (process_of w (DataNode d)) d)
  pub at_parity : (i d : ℕ) → d < w.shape.k → Lives w (ParityNode i) → KeepsLast w d (replica_of (process_of w (ParityNode i)) d)

-- a held call is of an update that is logged, or that waits in the log here
pub record IsHeldFor (w : World) (d : ℕ) (r : Replica) (h : Held) : Type 0 where
  pub settled : (u : Logged) → h.number ≤ r.applied → slice_get (updates_of w d) (h.number - 1) ≡ Some u
      → (u.entry.caller ≡ h.caller) × (u.entry.call ≡ h.call) × (u.entry.reply ≡ reply_from h.outcome)
  pub waiting : (u : Update) → r.applied < h.number → slice_get r.log (h.number - r.applied - 1) ≡ Some u
      → (u.caller ≡ h.caller) × (u.call ≡ h.call) × (u.outcome ≡ h.outcome)

-- every held call is
abbrev pub HeldIsHeld : World → Type 0
HeldIsHeld w = (p : ProcessId) (d : ℕ) (h : Held) → Lives w p → d < w.shape.k → Contains (held_at (process_of w p) d) h
    → IsHeldFor w d (replica_of (process_of w p) d) h

-- each node's word whether the group is down is right
abbrev pub NodesKnowDown : World → Type 0
NodesKnowDown w = (p : ProcessId) → IsProcess w.shape p → (process_node w p).down ≡ nat_lt w.shape.m (dead_nodes w.nodes)
