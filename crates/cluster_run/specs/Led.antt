-- Clusters that events led to.
use Rattle.std.specs.Prelude.{◌≡◌, List}
use Rattle.group_layout.specs.Cluster.{Cluster, MayAllHappen, cluster_after}
use Rattle.group_layout.specs.declared.event.ClusterEvent.{ClusterEvent}
use Rattle.group_cluster.specs.Plan.{IsPlan, Plan}
use Rattle.cluster_run.specs.Playing.{opening_of}

-- events that may happen led to the cluster, from groups by this plan
pub record IsLedTo (plan : Plan) (c : Cluster) : Type 0 where
  pub limits : IsPlan plan
  pub events : List ClusterEvent
  pub may : MayAllHappen (opening_of plan) events
  pub is : c ≡ cluster_after (opening_of plan) events
