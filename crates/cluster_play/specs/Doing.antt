-- When a line may come, and scripts of several groups as they are played.
use Rattle.std.specs.Prelude.{ℕ, ◌≡◌, ◌<◌, ◌≤◌, ◌+◌, ◌*◌, ◌^◌, ◌⊎◌, refl, ⊤, Option, Some, None}
use Rattle.std.proofs.Common.{inl, inr}
use Rattle.group_run.specs.Progress.{load_of}
use Rattle.group_layout.specs.Cluster.{Cluster, world_in}
use Rattle.group_cluster.specs.Plan.{Plan}
use Rattle.group_cluster.specs.declared.layout.LayoutField.TheVariants.{Groups, Nodes, Shape}
use Rattle.scenario_play.specs.Script.{TellsCauses, Scripts}
use Rattle.scenario_play.specs.Status.{TellsOfLine}
use Rattle.scenario_play.specs.declared.status.Status.TheVariants as status
use Rattle.cluster_run.specs.Led.{IsLedTo}
use Rattle.cluster_run.specs.Playing.{ClusterPlay, ClusterTurn, next_of}
use Rattle.cluster_run.specs.declared.fault.ClusterFault.{ClusterFault}
use Rattle.cluster_run.specs.declared.fault.ClusterFault.TheVariants.{BadLayout, BadLine, Want}
use Rattle.cluster_play.specs.Language.{told_at}

-- the events that each group made, and those that can drain it, are at most n
abbrev pub AreLight : ℕ → ℕ → Cluster → Type 0
AreLight n count c = (j : ℕ) → j < count → (world_in c.groups j).events + load_of (world_in c.groups j) ≤ n

-- the most by which a line raises them
abbrev pub most_of_a_line : ℕ
most_of_a_line = 2 ^ 22

-- events led to the cluster, and they are few
pub record IsReadyCluster (n : ℕ) (c : Cluster) : Type 0 where
  pub plan : Plan
  pub led : IsLedTo plan c
  pub light : AreLight n plan.groups c

-- a line of this number may come
abbrev pub ClusterGoesOn : ℕ → Option ClusterPlay → Type 0
ClusterGoesOn n None = ⊤
ClusterGoesOn n (Some p) = IsReadyCluster (n * most_of_a_line) p.cluster

-- scripts of several groups, as they are played; what they log is not counted
abbrev pub cluster_script : Scripts ClusterPlay ClusterTurn ClusterFault
cluster_script = record { rules = next_of; lacking = BadLine; want = Want; told = told_at; logged = λ play turns. 0; Ready = ClusterGoesOn }

refused : (n : ℕ) (cause : ClusterFault) → (told_at n cause ≡ status.Want) ⊎ TellsOfLine (told_at n cause)
refused n BadLine = inr tt
refused n (BadLayout Groups) = inr tt
refused n (BadLayout Nodes) = inr tt
refused n (BadLayout (Shape field)) = inr tt
refused n Want = inl refl

-- what is told of a line that is refused
pub cluster_told : TellsCauses cluster_script
cluster_told = record { lacking = λ n. refl; want = λ n. refl; refused = refused }
