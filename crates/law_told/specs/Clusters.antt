-- What a cluster tells: who is dead after nodes failed, and which group an ask is sent to.
use Rattle.std.specs.Prelude.{ℕ, ◌≡◌, ◌≢◌, ◌<◌, ◌+◌, ◌==◌, Bool, true, false, List, [], ◌∷◌, length, if◌then◌else◌}
use Rattle.group_types.specs.Dimensions.{Dimensions}
use Rattle.group_types.specs.Names.{process_at}
use Rattle.group_types.specs.Shape.{IsShape}
use Rattle.memc_table.specs.Act.{key_of}
use Rattle.group_calls.specs.declared.event.Event.TheVariants.{Ask}
use Rattle.group_run.specs.Meaning.{is_dead}
use Rattle.group_layout.specs.Cluster.{Cluster, IsLayout, MayAllHappen, cluster_after, cluster_step, opening_cluster, world_in}
use Rattle.group_layout.specs.Layout.{group_of, node_of}
use Rattle.group_layout.specs.declared.event.ClusterAnswer.TheVariants.{WrongGroup}
use Rattle.group_layout.specs.declared.event.ClusterEvent.{ClusterEvent}
use Rattle.group_layout.specs.declared.event.ClusterEvent.TheVariants.{FailNode, InGroup}

-- whether a node is one of those that fail
abbrev pub fails_in : ℕ → List ClusterEvent → Bool
fails_in node [] = false
fails_in node (InGroup j event ∷ es) = fails_in node es
fails_in node (FailNode other keep ∷ es) = if other == node then true else fails_in node es

-- process number q of group j is dead exactly where its node failed
abbrev pub DeadAreOnFailedNodes : Type 0
DeadAreOnFailedNodes = (s : Dimensions) (n count : ℕ) (es : List ClusterEvent) → IsShape s → IsLayout s n count → MayAllHappen (opening_cluster s n count) es
    → (j q : ℕ) → j < count → q < s.k + s.m → is_dead (world_in (cluster_after (opening_cluster s n count) es).groups j)
    (process_at s q) ≡ fails_in (node_of n j q) es

-- the event asks group j for a key of group i, which is another
abbrev pub AsksAnother : Cluster → ClusterEvent → ℕ → Type 0
AsksAnother c (InGroup j (Ask caller op p)) i = (group_of (key_of op.act) c.groups.shape.k (length c.groups.worlds) ≡ i) × (i ≢ j)
AsksAnother c _ i = ⊥

-- such an event is answered with that group, and changes nothing; no other event is answered so
pub record NamesAnother (c : Cluster) (e : ClusterEvent) (i : ℕ) : Type 0 where
  pub named : AsksAnother c e i → (cluster_step c e).answer ≡ WrongGroup i
  pub stays : AsksAnother c e i → (cluster_step c e).cluster ≡ c
  pub only : (cluster_step c e).answer ≡ WrongGroup i → AsksAnother c e i

abbrev pub OtherGroupsAreNamed : Type 0
OtherGroupsAreNamed = (c : Cluster) (e : ClusterEvent) (i : ℕ) → NamesAnother c e i
