-- What each process is, as plain data.
use Rattle.std.specs.Prelude.{ℕ, Bool, List, [], Option, Some, None, replicate}
use Rattle.group_types.specs.Dimensions.{Dimensions, space_of}
use Rattle.group_types.specs.Lists.{put}
use Rattle.group_types.specs.declared.process.ProcessId.{ProcessId}
use Rattle.group_types.specs.declared.process.ProcessId.TheVariants.{DataNode, ParityNode}
use Rattle.membership.specs.Members.{Membership, all_living}
use Rattle.group_message.specs.declared.message.Message.{Message}
use Rattle.group_message.specs.declared.update.Outcome.{Outcome}
use Rattle.group_run.specs.Replica.{Replica, empty_replica}

-- the head of a partition: its rank, the last number that it inherited, and the number that each parity
-- process acknowledged under this rank (none before its first). Its settled number is its applied
-- number.
pub record Head : Type 0 where
  pub rank : ℕ
  pub inherited : ℕ
  pub acks : List (Option ℕ)

-- the head of a partition that nobody has acknowledged anything
abbrev pub new_head : Dimensions → ℕ → ℕ → Head
new_head s rank inherited = record { rank = rank; inherited = inherited; acks = replicate s.m None }

-- a call that was answered with a ticket and isn't collected yet
pub record Held : Type 0 where
  pub caller : ℕ
  pub call : ℕ
  pub number : ℕ
  pub outcome : Outcome

-- a row's copy of a block for a session: the bytes, and the number of each partition that is marked
pub record Copy : Type 0 where
  pub leader : ℕ
  pub number : ℕ
  pub block : ℕ
  pub bytes : List ℕ
  pub marks : List (Option ℕ)

-- what a row keeps for others' sessions: its copies, and the last session that each leader ceased
pub record RowState : Type 0 where
  pub copies : List Copy
  pub ceased : List ℕ

-- an open session at its leader: the lost partitions, the rows, and what has come in of each data
-- process's block and of each row
pub record Gathering : Type 0 where
  pub number : ℕ
  pub block : ℕ
  pub lost : List ℕ
  pub rows : List ℕ
  pub blocks_in : List (Option (List ℕ))
  pub rows_in : List (Option (List ℕ))

-- what a leader keeps for its own sessions: those that are open, the number of the last one, and for
-- each partition its rebuilt blocks, at its settled number
pub record LeaderState : Type 0 where
  pub sessions : List Gathering
  pub last_session : ℕ
  pub rebuilt : List (List (Option (List ℕ)))

-- a process. A data process has the replica of its own partition, which it heads, and its space has
-- the values. A parity process has all replicas, its rank in each partition, and its space has the
-- code; what rows and leaders keep is a parity process's alone. Whoever heads a partition holds the
-- calls that it gave tickets.
pub record Process : Type 0 where
  pub name : ProcessId
  pub known : Membership
  pub replicas : List Replica
  pub ranks : List ℕ
  pub heads : List (Option Head)
  pub held : List (List Held)
  pub space : List ℕ
  pub as_row : RowState
  pub as_leader : LeaderState

-- a process with its links to the others, by index, and the words whether it and the group are down
pub record Node : Type 0 where
  pub process : Process
  pub links : List (List Message)
  pub dead : Bool
  pub down : Bool

-- a data process leads its partition from the start
abbrev pub heads_at_start : Dimensions → ProcessId → List (Option Head)
heads_at_start s (DataNode d) = put None (replicate s.k None) d (Some (new_head s 0 0))
heads_at_start s (ParityNode _) = replicate s.k None

-- what a row keeps at the start
abbrev pub no_row_state : Dimensions → RowState
no_row_state s = record { copies = []; ceased = replicate s.m 0 }

-- what a leader keeps at the start
abbrev pub no_leader_state : Dimensions → LeaderState
no_leader_state s = record { sessions = []; last_session = 0; rebuilt = replicate s.k (replicate s.blocks None) }

-- a process at the start
abbrev pub opening_process : Dimensions → ProcessId → Process
opening_process s name = record {
  name = name;
  known = all_living s;
  replicas = replicate s.k empty_replica;
  ranks = replicate s.k 0;
  heads = heads_at_start s name;
  held = replicate s.k [];
  space = replicate (space_of s) 0;
  as_row = no_row_state s;
  as_leader = no_leader_state s;
}
