-- What comes to a process and fits what it keeps.
use Rattle.std.specs.Prelude.{◌≡◌, ◌<◌, ◌≤◌, ℕ, ⊤, List, Some, None}
use Rattle.group_types.specs.Dimensions.{Dimensions}
use Rattle.group_types.specs.Lists.{at}
use Rattle.group_types.specs.declared.process.ProcessId.{ProcessId}
use Rattle.group_types.specs.declared.process.ProcessId.TheVariants.{ParityNode}
use Rattle.membership.specs.Members.{count_known_dead, with_dead}
use Rattle.group_message.specs.declared.message.Message.{Message}
use Rattle.group_message.specs.declared.message.Message.TheVariants as tells
use Rattle.group_message.specs.declared.update.Update.{Update}
use Rattle.group_run.specs.Fitting.{AdoptFits, NoticeFits, UpdateFits}
use Rattle.group_run.specs.Process.{Head, Process}
use Rattle.group_run.specs.Replica.{empty_replica, last_of}
use Rattle.head_service.specs.Serving.{Serving}

-- the process is a parity process of the group
abbrev pub IsParity : Dimensions → ProcessId → Type 0
IsParity s p = (i : ℕ) × (p ≡ ParityNode i) × (i < s.m)

-- an update, a settled number and a new head's list fit the replica, unless their rank is below the process's
abbrev pub FitsUnlessStale : Serving → ℕ → ℕ → Update → ℕ → Type 0
FitsUnlessStale v d r u stable =
    (unless_stale : at 0 v.ranks d ≤ r) → UpdateFits v.shape (at empty_replica v.replicas d) u stable

abbrev pub CanSettle : Serving → ℕ → ℕ → ℕ → Type 0
CanSettle v d r n = (unless_stale : at 0 v.ranks d ≤ r) → n ≤ last_of (at empty_replica v.replicas d)

abbrev pub CanAdopt : Serving → ℕ → ℕ → ℕ → List Update → Type 0
CanAdopt v d r base list =
    (unless_stale : at 0 v.ranks d ≤ r) → AdoptFits v.shape (at empty_replica v.replicas d) base list

-- the process heads the partition under a rank, and has issued a number
pub record HasIssued (v : Serving) (d r n : ℕ) : Type 0 where
  pub heads : (h : Head) × (at None v.heads d ≡ Some h) × (h.rank ≡ r)
  pub issued : n ≤ last_of (at empty_replica v.replicas d)

-- the notice of a death fits, comes from the dead, and leaves no more than m known dead
pub record NoticeComes (s : Dimensions) (from : ProcessId) (p : Process) (dead : ProcessId) : Type 0 where
  pub sender : from ≡ dead
  pub fits : NoticeFits s p dead
  pub few : count_known_dead (with_dead p.known dead) ≤ s.m

-- no more than m are known dead once a message came
abbrev pub LeavesFew : Dimensions → Message → Process → Type 0
LeavesFew s (tells.Notice dead) p = count_known_dead (with_dead p.known dead) ≤ s.m
LeavesFew s _ p = ⊤
