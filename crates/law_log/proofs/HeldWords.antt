-- Calls that a head holds: each is of an update of the head's history, and of a settled one once that is applied.
use Rattle.std.specs.Prelude.{ℕ, ◌≡◌, ◌<◌, ◌≤◌, ◌-◌, false, List, [], slice_get, Some, None, Contains}
use Rattle.group_types.specs.Dimensions.{Dimensions}
use Rattle.group_types.specs.Names.{IsProcess}
use Rattle.group_types.specs.declared.process.ProcessId.{ProcessId}
use Rattle.group_types.specs.Each.{Each}
use Rattle.group_message.specs.declared.update.Update.{Update}
use Rattle.group_run.specs.Applying.{head_at, held_at, replica_of}
use Rattle.group_run.specs.Process.{Head, Held, Process}
use Rattle.group_run.specs.Replica.{Replica}
use Rattle.group_run.specs.History.{history}
use Rattle.law_moves.specs.State.{State, HoldsAlways}
use Rattle.law_log.specs.Stands.{IsSettledAs}

-- a held call is of an update of a history
pub record IsHeldOf (whole : List Update) (x : Held) : Type 0 where
  pub update : Update
  pub there : Contains whole update
  pub number : update.number ≡ x.number
  pub caller : update.caller ≡ x.caller
  pub call : update.call ≡ x.call
  pub outcome : update.outcome ≡ x.outcome

-- a process holds calls of updates of its history where it heads the partition, and none where it doesn't
pub record HeldFits (settled : List Update) (d : ℕ) (p : Process) : Type 0 where
  pub heads : (h : Head) → head_at p d ≡ Some h → Each (IsHeldOf (history settled (replica_of p d))) (held_at p d)
  pub none : head_at p d ≡ None → held_at p d ≡ []

-- so it is at every living process
abbrev pub HeldStand : Dimensions → State → Type 0
HeldStand s v = (p : ProcessId) (d : ℕ) → IsProcess s p → v.dead p ≡ false → d < s.k → HeldFits (v.settled d) d (v.process p)

-- a held call whose update is applied is of a settled update
abbrev pub HeldIsSettled : Dimensions → State → Type 0
HeldIsSettled s v = (p : ProcessId) (d : ℕ) (x : Held) → IsProcess s p → v.dead p ≡ false → d < s.k → Contains (held_at (v.process p) d) x
    → x.number ≤ (replica_of (v.process p) d).applied → IsSettledAs (v.settled d) (record { caller = x.caller; call = x.call }) x.outcome

-- a held call is the one of this update
abbrev pub IsHeldFrom : Held → Update → Type 0
IsHeldFrom x u = (u.caller ≡ x.caller) × (u.call ≡ x.call) × (u.outcome ≡ x.outcome)

-- a held call is that of the update of its number, of a settled one, or of one that waits in the log
pub record IsHeldAt (settled : List Update) (r : Replica) (x : Held) : Type 0 where
  pub is_settled : (u : Update) → x.number ≤ r.applied → slice_get settled (x.number - 1) ≡ Some u → IsHeldFrom x u
  pub waits : (u : Update) → r.applied < x.number → slice_get r.log (x.number - r.applied - 1) ≡ Some u → IsHeldFrom x u

-- so is each
abbrev pub HeldAreAt : Dimensions → State → Type 0
HeldAreAt s v = (p : ProcessId) (d : ℕ) (x : Held) → IsProcess s p → v.dead p ≡ false → d < s.k
    → Contains (held_at (v.process p) d) x → IsHeldAt (v.settled d) (replica_of (v.process p) d) x

-- all this holds along every run
abbrev pub HeldAlways : Type 0
HeldAlways = (s : Dimensions) → HoldsAlways s (λ v. HeldStand s v × HeldIsSettled s v × HeldAreAt s v)
