-- What decoding asks of a leader's open sessions.
use Rattle.std.specs.Prelude.{ℕ, ◌≡◌, ◌<◌, false, List, length, Contains, Some, None}
use Rattle.group_types.specs.Dimensions.{Dimensions}
use Rattle.group_types.specs.Lists.{at}
use Rattle.group_types.specs.Names.{IsProcess}
use Rattle.group_types.specs.declared.process.ProcessId.{ProcessId}
use Rattle.group_types.specs.Each.{Each}
use Rattle.group_run.specs.Process.{Gathering}
use Rattle.law_moves.specs.State.{IsGroupUp, State, HoldsAlways}
use Rattle.law_bytes.specs.Decoding.{Rising}

-- a session's lost partitions and rows are in order and of the group, the rows are as many, and no block is of
-- a lost partition
pub record IsSoundSession (s : Dimensions) (g : Gathering) : Type 0 where
  pub lost : Rising g.lost
  pub lost_in : Each (λ d. d < s.k) g.lost
  pub rows : Rising g.rows
  pub rows_in : Each (λ i. i < s.m) g.rows
  pub as_many : length g.rows ≡ length g.lost
  pub blocks : (d : ℕ) (bytes : List ℕ) → at None g.blocks_in d ≡ Some bytes → (d < s.k) × (¬ (Contains g.lost d))

-- while the group isn't down each open session of a living process is so
abbrev pub SessionsSound : Dimensions → State → Type 0
SessionsSound s v = IsGroupUp s v → (p : ProcessId) → IsProcess s p → v.dead p ≡ false → Each (IsSoundSession s) (v.process p).as_leader.sessions

-- so it is along every run
abbrev pub SessionsAlwaysSound : Type 0
SessionsAlwaysSound = (s : Dimensions) → HoldsAlways s (SessionsSound s)
