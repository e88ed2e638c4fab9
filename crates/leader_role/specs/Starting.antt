-- What a leader's first messages of a session are made of.
use Rattle.std.specs.Prelude.{◌≡◌, ℕ, ◌==◌, not, List, filter, flat_map, map}
use Rattle.std.specs.List.{range_with_len}
use Rattle.group_types.specs.Dimensions.{Dimensions}
use Rattle.group_types.specs.Lists.{at}
use Rattle.group_types.specs.declared.process.Partition.{Partition}
use Rattle.group_types.specs.declared.process.ProcessId.TheVariants.{DataNode, ParityNode}
use Rattle.group_types.specs.declared.process.Rank.{Rank}
use Rattle.membership.specs.Members.{Membership, knows_dead}
use Rattle.group_message.specs.declared.message.Message.TheVariants as tells
use Rattle.group_run.specs.Applying.{Sent}
use Rattle.group_run.specs.Heading.{partition, rank}
use Rattle.group_run.specs.Leaders.{rows_of, session_of}
use Rattle.group_run.specs.Process.{Process}
use Rattle.group_run.specs.Replica.{Replica, empty_replica}
use Rattle.leader_role.specs.declared.start.Start.{Start}

-- the data processes that are known dead, those that aren't, and the parity processes that aren't
abbrev pub dead_data : Dimensions → Membership → List ℕ
dead_data s known = filter (λ d. knows_dead known (DataNode d)) (range_with_len 0 s.k)

abbrev pub living_data : Dimensions → Membership → List ℕ
living_data s known = filter (λ d. not (knows_dead known (DataNode d))) (range_with_len 0 s.k)

abbrev pub living_parity : Dimensions → Membership → List ℕ
living_parity s known = filter (λ i. not (knows_dead known (ParityNode i))) (range_with_len 0 s.m)

-- the questions to the data processes that are left
abbrev pub read_of : Start → List ℕ → ℕ → Sent
read_of start rows d = record { to = DataNode d; message = tells.ReadBlock (session_of start.leader start.number) start.block rows }

abbrev pub reads : Start → Dimensions → Membership → List ℕ → List Sent
reads start s known rows = map (read_of start rows) (living_data s known)

-- the marks of a partition to the rows but the leader's own
abbrev pub mark_to : Start → Rank → Partition → ℕ → ℕ → Sent
mark_to start r d n i = record { to = ParityNode i; message = tells.Mark (session_of start.leader start.number) r start.block d n }

abbrev pub marks : Start → Rank → Partition → ℕ → List ℕ → List Sent
marks start r d n rows = map (mark_to start r d n) (filter (λ i. not (i == start.leader)) rows)

-- the marks of a lost partition, at its rank and at its settled number
abbrev pub marks_at : Start → List ℕ → List ℕ → List Replica → ℕ → List Sent
marks_at start rows ranks replicas d = marks start (rank (at 0 ranks d)) (partition d) (at empty_replica replicas d).applied rows

-- the marks of the lost partitions
abbrev pub marks_of_lost : Start → Dimensions → Membership → List ℕ → List ℕ → List Replica → List Sent
marks_of_lost start s known rows ranks replicas = flat_map (marks_at start rows ranks replicas) (dead_data s known)

-- a process of the machine with these parts, and with these rows for its sessions
pub record HasParts (s : Dimensions) (known : Membership) (rows : List ℕ) (ranks : List Rank) (replicas : List Replica) (p : Process) : Type 0 where
  pub known_is : p.known ≡ known
  pub rows_are : rows ≡ rows_of s p
  pub ranks_are : p.ranks ≡ map (λ r. r.0) ranks
  pub replicas_are : p.replicas ≡ replicas
