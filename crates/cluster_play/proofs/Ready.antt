-- What a cluster is ready for, by what led to it.
use Rattle.std.proofs.Common.{ℕ, ◌≡◌, ◌<◌, ◌^◌, length, Option, Some, None, sym, subst, ◌∙◌, arith}
use Rattle.group_types.specs.Dimensions.{Dimensions}
use Rattle.group_types.proofs.Lists.{length-put}
use Rattle.group_run.specs.World.{opening, step}
use Rattle.group_calls.specs.declared.event.Event.{Event}
use Rattle.group_layout.specs.Cluster.{Cluster, all_moved, cluster_step, move_unless, other_group, world_in}
use Rattle.group_layout.specs.declared.event.ClusterEvent.TheVariants.{InGroup}
use Rattle.group_cluster.specs.History.{AllHaveFew, HasFewEvents}
use Rattle.scenario_text.specs.Meaning.{IsLineOf, IsWithin}
use Rattle.scenario_text.specs.declared.line.Line.{Line}
use Rattle.cluster_run.proofs.Leading.{led-even}
use Rattle.cluster_play.specs.Doing.{IsReadyCluster}

-- there is a group
pub ready-some : (c : Cluster) → IsReadyCluster (2 ^ 59) c → 0 < length c.groups.worlds
ready-some c ready = let many = (led-even ready.plan c ready.led).many in let some = ready.led.limits.groups.0 in omega (arith, many, some)

-- all groups have one shape
pub shape-of-first : (c : Cluster) → IsReadyCluster (2 ^ 59) c → (world_in c.groups 0).shape ≡ c.groups.shape
shape-of-first c ready = let even = led-even ready.plan c ready.led in even.worlds 0 ∙ sym even.shape

pub within-there : (c : Cluster) (j : ℕ) (l m : Line) → IsReadyCluster (2 ^ 59) c → IsLineOf (Some c.groups.shape) l → l ≡ m
    → IsWithin (world_in c.groups j).shape m
within-there c j l m ready within is =
    let even = led-even ready.plan c ready.led in
    subst (λ (x : Line). IsWithin (world_in c.groups j).shape x) is (subst (λ (s : Dimensions). IsLineOf (Some s) l) (even.shape ∙ sym (even.worlds j)) within)

-- each made few events
pub few-in : (c : Cluster) (j : ℕ) → IsReadyCluster (2 ^ 59) c → j < length c.groups.worlds → HasFewEvents c.groups j
few-in c j ready low = let light = ready.light j (subst (λ (n : ℕ). j < n) (led-even ready.plan c ready.led).many low) in omega (arith, light)

pub few-all : (c : Cluster) → IsReadyCluster (2 ^ 59) c → AllHaveFew c.groups
few-all c ready j low = few-in c j ready low

-- the number of groups stays
pub there-after : (c : Cluster) (j : ℕ) (e : Event) (d : Cluster) → d ≡ (cluster_step c (InGroup j e)).cluster
    → j < length c.groups.worlds → j < length d.groups.worlds
there-after c j e d is low = subst (λ (x : Cluster). j < length x.groups.worlds) (sym is) (by (other_group c.groups j e)) where
  by : (o : Option ℕ) → j < length (all_moved c.groups (move_unless o (record { group = j; event = e }))).worlds
  by (Some own) = low
  by None = let same = length-put (opening c.groups.shape) c.groups.worlds j (step (world_in c.groups j) e).world low in omega (arith, low, same)
