-- Outcomes that replicas keep of callers: of each caller that of its last applied update.
use Rattle.std.specs.Prelude.{ℕ, ◌≡◌, ◌<◌, ◌==◌, false, List, [], ◌∷◌, take, Option, Some, None, if◌then◌else◌}
use Rattle.group_types.specs.Dimensions.{Dimensions}
use Rattle.group_types.specs.Lists.{at}
use Rattle.group_types.specs.Names.{IsProcess}
use Rattle.group_types.specs.declared.process.ProcessId.{ProcessId}
use Rattle.group_message.specs.declared.kept.Kept.{Kept}
use Rattle.group_message.specs.declared.update.Update.{Update}
use Rattle.group_run.specs.Applying.{replica_of}
use Rattle.group_run.specs.Replica.{Replica}
use Rattle.law_moves.specs.State.{State, HoldsAlways}
use Rattle.law_histories.proofs.Reach.{IsKeeper}
use Rattle.law_log.specs.Stands.{IsSettledAs}

-- what the last of some updates that is a caller's leaves of it
abbrev pub kept_last : ℕ → Option Kept → List Update → Option Kept
kept_last caller before [] = before
kept_last caller before (u ∷ us) = kept_last caller (if u.caller == caller then Some (record { call = u.call; outcome = u.outcome }) else before) us

-- a replica keeps of each caller what its last applied update left, which is a settled one
pub record KeptFits (settled : List Update) (r : Replica) : Type 0 where
  pub last : (caller : ℕ) → at None r.kept caller ≡ kept_last caller None (take r.applied settled)
  pub settled_as : (caller : ℕ) (x : Kept) → at None r.kept caller ≡ Some x → IsSettledAs settled (record { caller = caller; call = x.call }) x.outcome

-- so it is at every living process that keeps the partition
abbrev pub KeptStand : Dimensions → State → Type 0
KeptStand s v = (p : ProcessId) (d : ℕ) → IsProcess s p → v.dead p ≡ false → d < s.k → IsKeeper d p → KeptFits (v.settled d) (replica_of (v.process p) d)

-- along every run
abbrev pub KeptAlways : Type 0
KeptAlways = (s : Dimensions) → HoldsAlways s (KeptStand s)
