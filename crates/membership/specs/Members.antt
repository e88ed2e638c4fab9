use Rattle.std.specs.Prelude.{ℕ, ◌≡◌, ◌≤◌, ◌+◌, Bool, true, false, List, [], ◌∷◌, replicate, if◌then◌else◌}
use Rattle.group_types.specs.Dimensions.{Dimensions}
use Rattle.group_types.specs.Lists.{at, put}
use Rattle.group_types.specs.Names.{of_rank}
use Rattle.group_types.specs.declared.process.ProcessId.{ProcessId}
use Rattle.group_types.specs.declared.process.ProcessId.TheVariants.{DataNode, ParityNode}

-- who of a group is known dead: a word for each data process, and for each parity process
pub record Membership : Type 0 where
  pub shape : Dimensions
  pub data_dead : List Bool
  pub parity_dead : List Bool

-- nobody is known dead
abbrev pub all_living : Dimensions → Membership
all_living s = record { shape = s; data_dead = replicate 16 false; parity_dead = replicate 4 false }

-- whether a process is known dead
abbrev pub knows_dead : Membership → ProcessId → Bool
knows_dead members (DataNode d) = at false members.data_dead d
knows_dead members (ParityNode i) = at false members.parity_dead i

-- one process more is known dead
abbrev pub with_dead : Membership → ProcessId → Membership
with_dead members (DataNode d) = record members { data_dead = put false members.data_dead d true }
with_dead members (ParityNode i) = record members { parity_dead = put false members.parity_dead i true }

-- how many of the words say dead
abbrev pub count_dead_words : List Bool → ℕ
count_dead_words [] = 0
count_dead_words (word ∷ words) = (if word then 1 else 0) + count_dead_words words

-- how many processes are known dead
abbrev pub count_known_dead : Membership → ℕ
count_known_dead members = count_dead_words members.data_dead + count_dead_words members.parity_dead

-- every process that has a rank in the partition is known dead
abbrev pub NoHead : Membership → ℕ → Type 0
NoHead members d = (r : ℕ) → r ≤ members.shape.m → knows_dead members (of_rank d r) ≡ true
