-- What a process's partitions stand on.
use Rattle.std.specs.Prelude.{◌≡◌, ◌<◌, ℕ, ◌==◌, Bool, false, List, [], Option, None, Some, length, replicate, All, IfSome}
use Rattle.group_types.specs.Dimensions.{Dimensions}
use Rattle.group_types.specs.Lists.{at}
use Rattle.group_types.specs.Names.{IsProcess}
use Rattle.group_types.specs.declared.process.ProcessId.{ProcessId}
use Rattle.membership.specs.Members.{Membership, all_living}
use Rattle.group_run.specs.Process.{Head, Process, heads_at_start}
use Rattle.group_run.specs.Replica.{empty_replica}
use Rattle.partition_replica.specs.State.{IsTidyBut, ReplicaState}
use Rattle.head_service.specs.Paging.{MakesNoneOf}
use Rattle.head_service.specs.Serving.{Serving, serving}
use Rattle.head_service.specs.Storage.{Storage}

-- a process as contracts see it: the shape of its group, the machine's process, and the numbers of the blocks whose pages
-- were made
pub record Standing : Type 0 where
  pub shape : Dimensions
  pub process : Process
  pub made : List ℕ

-- what it keeps of its partitions, over these bytes and pages
abbrev pub standing : Serving → Process → List ℕ → Standing
standing v b made = record { shape = v.shape; process = serving v b; made = made }

-- these bytes are beneath the process's partitions: those of the same process, with rebuilt blocks of each
-- partition, and all is ready that adding a logged update needs
pub record IsBeneath (v : Serving) (b : Storage) : Type 0 where
  pub shape : b.shape ≡ v.shape
  pub name : b.process.name ≡ v.name
  pub blocks : length b.process.as_leader.rebuilt ≡ v.shape.k
  pub ready : (d : ℕ) → d < v.shape.k → All (b.is_ready d) (at empty_replica v.replicas d).log

-- a step of the process leaves its shape and name, with bytes beneath it, and makes no page
pub record StaysOver (v w : Serving) (b c : Storage) : Type 0 where
  pub shape : w.shape ≡ v.shape
  pub name : w.name ≡ v.name
  pub beneath : IsBeneath w c
  pub pages : c.made ≡ b.made

-- or makes pages, but none of the blocks that are missed
pub record GrowsOver (IsMissed : ℕ → Type 0) (v w : Serving) (b c : Storage) : Type 0 where
  pub shape : w.shape ≡ v.shape
  pub name : w.name ≡ v.name
  pub beneath : IsBeneath w c
  pub pages : MakesNoneOf IsMissed b.made c.made

-- nothing but room has changed
pub record IsAsItWas (v w : Serving) (b c : Storage) : Type 0 where
  pub service : w ≡ v
  pub process : c.process ≡ b.process

-- what a process keeps at the start
abbrev pub at_start : Dimensions → ProcessId → Serving
at_start s name = record {
  shape = s;
  name = name;
  known = all_living s;
  replicas = replicate s.k empty_replica;
  ranks = replicate s.k 0;
  heads = heads_at_start s name;
  held = replicate s.k [];
}

-- what it keeps is of each of the k partitions and of this shape; a head counts m acknowledgements, and no key is ready without need
pub record IsServingState (s : Dimensions) (name : ProcessId) (known : Membership) (replicas : List ReplicaState)
    (ranks : ℕ) (heads : List (Option Head)) (held : ℕ) : Type 0 where
  pub process : IsProcess s name
  pub members : known.shape ≡ s
  pub replicas_long : length replicas ≡ s.k
  pub ranks_long : ranks ≡ s.k
  pub heads_long : length heads ≡ s.k
  pub held_long : held ≡ s.k
  pub shapes : All (λ r. r.shape ≡ s) replicas
  pub tidy : All (λ r. IsTidyBut r (λ _. false)) replicas
  pub acks : All (λ head. IfSome head (λ h. length h.acks ≡ s.m)) heads

-- the head, if it is one, is of this rank
abbrev pub is_under : ℕ → Option Head → Bool
is_under rank None = false
is_under rank (Some h) = rank == h.rank
