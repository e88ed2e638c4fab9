-- What every replica has seen: each living process's history of a partition prolongs the settled updates,
-- and the messages on their way fit one after the other and end in the head's history.
use Rattle.std.specs.Prelude.{ℕ, ◌≡◌, ◌≢◌, ◌<◌, ◌≤◌, ◌⊎◌, max, Bool, false, List, length, Option, Some, None}
use Rattle.group_types.specs.Dimensions.{Dimensions}
use Rattle.group_types.specs.Lists.{at}
use Rattle.group_types.specs.Names.{IsProcess}
use Rattle.group_types.specs.declared.process.ProcessId.{ProcessId}
use Rattle.group_types.specs.declared.process.ProcessId.TheVariants.{DataNode, ParityNode}
use Rattle.group_types.specs.Each.{Each}
use Rattle.group_message.specs.declared.message.Message.{Message}
use Rattle.group_message.specs.declared.update.Update.{Update}
use Rattle.group_run.specs.Applying.{head_at, replica_of}
use Rattle.group_run.specs.Deciding.{window}
use Rattle.group_run.specs.Process.{Head, Process}
use Rattle.group_run.specs.Replica.{Replica, last_of}
use Rattle.group_run.specs.History.{history}
use Rattle.law_moves.specs.State.{State, HoldsAlways}
use Rattle.law_moves.proofs.Members.{Members}
use Rattle.law_histories.proofs.HistoryWords.{ItemsFit}
use Rattle.law_histories.proofs.LaneWords.{AckBelow, AckFits, Fine, Goes, Prolongs, Seen, next}
use Rattle.law_histories.proofs.Folds.{run, Along}

-- what is seen of partition d at a process
abbrev pub seen_at : ℕ → List Update → Process → Seen
seen_at d settled p = record { rank = at 0 p.ranks d; history = history settled (replica_of p d); number = (replica_of p d).applied }

-- the process keeps partition d: the data process its own, and a parity process each
abbrev pub IsKeeper : ℕ → ProcessId → Type 0
IsKeeper d (DataNode e) = e ≡ d
IsKeeper d (ParityNode i) = Unit {0}

-- a head has settled all that is settled, or waits for what it inherited; the first head inherited nothing
pub record HeadReaches (settled : List Update) (replica : Replica) (h : Head) : Type 0 where
  pub inherited : h.inherited ≤ last_of replica
  pub first : h.rank ≡ 0 → h.inherited ≡ 0
  pub all_or : (replica.applied ≡ length settled) ⊎ ((replica.applied < h.inherited) × (length settled ≤ h.inherited))

-- a replica has applied no more than is settled, its history prolongs that, and its log is short; and so much
-- has its process settled where it heads the partition
pub record ReplicaFits (F : ℕ → ℕ → List Update → Type 0) (d : ℕ) (settled : List Update) (replica : Replica) (head : Option Head) : Type 0 where
  pub applied : replica.applied ≤ length settled
  pub prolongs : Prolongs settled (history settled replica)
  pub short : length replica.log ≤ window
  pub fine : Fine F d replica.applied (history settled replica)
  pub holds : ItemsFit settled replica
  pub heads : (h : Head) → head ≡ Some h → HeadReaches settled replica h

-- so it is of partition d at a process
abbrev pub ReplicaReaches : (ℕ → ℕ → List Update → Type 0) → ℕ → List Update → Process → Type 0
ReplicaReaches F d settled p = ReplicaFits F d settled (replica_of p d) (head_at p d)

-- what a head kept of a parity process's acknowledgements: it stands under the head's rank, and has as much
pub record KeptGoes (sender : Seen) (h : Head) (n : ℕ) : Type 0 where
  pub rank : sender.rank ≡ h.rank
  pub has : n ≤ length sender.history

-- what is seen in the end is the head's history, under its rank, and applied no further than the head has, or
-- than it inherited
pub record EndsAt (settled : List Update) (replica : Replica) (h : Head) (seen : Seen) : Type 0 where
  pub rank : seen.rank ≡ h.rank
  pub history_is : seen.history ≡ history settled replica
  pub number : seen.number ≤ max replica.applied h.inherited

-- a process, by its head and its replica of the partition, with the link from it to parity process i and the
-- link back: what is on its way fits; where the process lives, the acknowledgements are of what the parity
-- process has; and where it heads the partition, the parity process will have seen the head's history
pub record LaneReaches (F : ℕ → ℕ → List Update → Type 0) (d : ℕ) (settled : List Update) (x : ProcessId) (i : ℕ) (dead : Bool)
    (head : Option Head) (replica : Replica) (seen : Seen) (there back : List Message) : Type 0 where
  pub goes : Along (next d) (Goes F d settled) seen there
  pub ends : dead ≡ false → (h : Head) → head ≡ Some h → EndsAt settled replica h (run (next d) seen there)
  pub kept : dead ≡ false → (h : Head) → head ≡ Some h → (n : ℕ) → at None h.acks i ≡ Some n → KeptGoes seen h n
  pub acks : dead ≡ false → Each (AckFits d x seen) back

-- a partition at all living processes, all links into living parity processes, and those from parity processes,
-- dead or not, into a living head
pub record PartitionReaches (F : ℕ → ℕ → List Update → Type 0) (s : Dimensions) (v : State) (d : ℕ) : Type 0 where
  pub replicas : (q : ProcessId) → IsProcess s q → v.dead q ≡ false → IsKeeper d q → ReplicaReaches F d (v.settled d) (v.process q)
  pub lanes : (x : ProcessId) (i : ℕ) → IsProcess s x → i < s.m → x ≢ ParityNode i → v.dead (ParityNode i) ≡ false
      → LaneReaches F d (v.settled d) x i (v.dead x) (head_at (v.process x) d) (replica_of (v.process x) d) (seen_at d (v.settled d) (v.process (ParityNode i)))
      (v.link x (ParityNode i)) (v.link (ParityNode i) x)
  pub issued : (x : ProcessId) (i : ℕ) (h : Head) → IsProcess s x → v.dead x ≡ false → i < s.m → x ≢ ParityNode i → head_at (v.process x) d ≡ Some h
      → Each (AckBelow d (last_of (replica_of (v.process x) d))) (v.link (ParityNode i) x)

-- each partition
abbrev pub Reach : (ℕ → ℕ → List Update → Type 0) → Dimensions → State → Type 0
Reach F s v = (d : ℕ) → d < s.k → PartitionReaches F s v d

-- a history of which nothing is said but its numbers
abbrev pub Any : ℕ → ℕ → List Update → Type 0
Any d a history = Unit {0}

-- it holds along every run
abbrev pub ReachAlways : Type 0
ReachAlways = (s : Dimensions) → HoldsAlways s (λ v. Members s v × Reach Any s v)
