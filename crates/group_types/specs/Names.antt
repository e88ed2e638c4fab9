-- The names of processes: their order in a group, and their ranks in a partition.
use Rattle.std.specs.Prelude.{ℕ, zero, suc, ◌≡◌, ◌<◌, ◌≤◌, ◌+◌, ◌-◌, ◌==◌, nat_lt, Bool, true, false, if◌then◌else◌}
use Rattle.group_types.specs.Dimensions.{Dimensions}
use Rattle.group_types.specs.declared.process.ProcessId.{ProcessId}
use Rattle.group_types.specs.declared.process.ProcessId.TheVariants.{DataNode, ParityNode}

-- the process is one of the group
abbrev pub IsProcess : Dimensions → ProcessId → Type 0
IsProcess s (DataNode d) = d < s.k
IsProcess s (ParityNode i) = i < s.m

-- the index of a process in the order of processes: the data processes first
abbrev pub index_of : Dimensions → ProcessId → ℕ
index_of s (DataNode d) = d
index_of s (ParityNode i) = s.k + i

-- the process at an index
abbrev pub process_at : Dimensions → ℕ → ProcessId
process_at s x = if nat_lt x s.k then DataNode x else ParityNode (x - s.k)

-- whether two names are of one process
abbrev pub same_process : ProcessId → ProcessId → Bool
same_process (DataNode a) (DataNode b) = a == b
same_process (ParityNode a) (ParityNode b) = a == b
same_process (DataNode _) (ParityNode _) = false
same_process (ParityNode _) (DataNode _) = false

-- the process of a rank in partition d: its data process, then the parity processes
abbrev pub of_rank : ℕ → ℕ → ProcessId
of_rank d zero = DataNode d
of_rank d (suc i) = ParityNode i

-- the rank with which a process heads a partition, if it heads it
abbrev pub heading_rank : ProcessId → ℕ
heading_rank (DataNode _) = 0
heading_rank (ParityNode i) = suc i

-- the process of rank r, of at most m, heads partition d: it isn't among the dead, and all those of
-- lower rank are
pub record IsHead (m : ℕ) (dead : ProcessId → Bool) (d r : ℕ) : Type 0 where
  pub within : r ≤ m
  pub lives : dead (of_rank d r) ≡ false
  pub lowest : (q : ℕ) → q < r → dead (of_rank d q) ≡ true
