-- What a leader's open sessions are for: the partitions whose data processes it knows to be dead, and as rows
-- the first so many parity processes that it doesn't.
use Rattle.std.specs.Prelude.{ℕ, ◌≡◌, ◌<◌, false, not, List, length, take, filter, Some, None}
use Rattle.std.specs.List.{range_with_len}
use Rattle.group_types.specs.Dimensions.{Dimensions}
use Rattle.group_types.specs.Lists.{at}
use Rattle.group_types.specs.Names.{IsProcess}
use Rattle.group_types.specs.declared.process.ProcessId.{ProcessId}
use Rattle.group_types.specs.declared.process.ProcessId.TheVariants.{DataNode, ParityNode}
use Rattle.group_types.specs.Each.{Each}
use Rattle.membership.specs.Members.{Membership, knows_dead}
use Rattle.group_run.specs.Process.{Gathering}
use Rattle.law_moves.specs.State.{State, HoldsAlways}

-- the partitions that are lost, and the parity processes that are left, as far as is known
abbrev pub lost_by : Dimensions → Membership → List ℕ
lost_by s known = filter (λ d. knows_dead known (DataNode d)) (range_with_len 0 s.k)

abbrev pub left_by : Dimensions → Membership → List ℕ
left_by s known = filter (λ i. not (knows_dead known (ParityNode i))) (range_with_len 0 s.m)

-- a session is for what is known, and has no block of a lost partition
pub record IsFor (s : Dimensions) (known : Membership) (g : Gathering) : Type 0 where
  pub lost : g.lost ≡ lost_by s known
  pub rows : g.rows ≡ take (length (lost_by s known)) (left_by s known)
  pub blocks : (d : ℕ) (bytes : List ℕ) → at None g.blocks_in d ≡ Some bytes → (d < s.k) × (knows_dead known (DataNode d) ≡ false)

-- each open session of a living process is
abbrev pub SessionsFit : Dimensions → State → Type 0
SessionsFit s v = (p : ProcessId) → IsProcess s p → v.dead p ≡ false → Each (IsFor s (v.process p).known) (v.process p).as_leader.sessions

-- so it is along every run
abbrev pub SessionsAlwaysFit : Type 0
SessionsAlwaysFit = (s : Dimensions) → HoldsAlways s (SessionsFit s)
