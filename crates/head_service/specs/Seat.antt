-- What a head stands on: a partition's replica, and the bytes beneath.
use Rattle.std.specs.Prelude.{ℕ, ◌≡◌, ◌<◌, Bool, false, ◌||◌, List, [], ◌∷◌, length, All}
use Rattle.group_message.specs.declared.update.Update.{Update}
use Rattle.group_run.specs.Process.{Head}
use Rattle.partition_replica.specs.State.{HasRoom, IsTidyBut, ReplicaState, is_touched}
use Rattle.head_service.specs.Storage.{Storage}
use Rattle.head_service.specs.declared.peers.Peers.{Peers}

-- a replica of partition d stands on these bytes: they are of its shape, with rebuilt blocks of the partition, and
-- all is ready that adding a logged update needs
pub record StandsOn (d : ℕ) (r : ReplicaState) (b : Storage) : Type 0 where
  pub partition : d < b.shape.k
  pub shape : b.shape ≡ r.shape
  pub blocks : d < length b.process.as_leader.rebuilt
  pub ready : All (b.is_ready d) r.replica.log

-- it does, and each key that is ready is needed, or owed
pub record IsSeatBut (owed : List ℕ → Bool) (d : ℕ) (r : ReplicaState) (b : Storage) : Type 0 where
  pub stands : StandsOn d r b
  pub tidy : IsTidyBut r owed

-- no key is owed
abbrev pub IsWholeSeat : ℕ → ReplicaState → Storage → Type 0
IsWholeSeat d r b = IsSeatBut (λ _. false) d r b

-- the seat of a head, which counts an acknowledgement of each parity process
pub record IsHeadSeat (d : ℕ) (peers : Peers) (h : Head) (r : ReplicaState) (b : Storage) : Type 0 where
  pub seat : IsWholeSeat d r b
  pub acks : length h.acks ≡ peers.m

-- nothing but room has changed
pub record ChangesOnlyRoom (r s : ReplicaState) (b c : Storage) : Type 0 where
  pub replica : s.replica ≡ r.replica
  pub process : c.process ≡ b.process

-- each key that is ready without need was so before, or is of one of these updates
abbrev pub OwesOnly : List Update → ReplicaState → ReplicaState → Type 0
OwesOnly us old new = (owed : List ℕ → Bool) → IsTidyBut old owed → IsTidyBut new (λ q. owed q || is_touched us q)

-- there is room for an update: at the replica, among calls that are held, and beneath
pub record HasRoomFor (d : ℕ) (u : Update) (r : ReplicaState) (held capacity : ℕ) (b : Storage) : Type 0 where
  pub room : HasRoom r.room (u ∷ [])
  pub place : held < capacity
  pub ready : b.is_ready d u
