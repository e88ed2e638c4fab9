-- What is promised of a cluster: each group makes a run of its own, which has the whole headline, and the cluster's
-- log is that of its groups.
use Rattle.std.specs.Prelude.{ℕ, ◌≡◌, ◌<◌, ◌≤◌, List, All}
use Rattle.group_types.specs.Dimensions.{Dimensions}
use Rattle.group_types.specs.Shape.{IsShape}
use Rattle.memc_table.specs.Act.{key_of}
use Rattle.membership.specs.Members.{count_dead_words}
use Rattle.group_calls.specs.Log.{IsLegal}
use Rattle.group_calls.specs.declared.entry.Entry.{Entry}
use Rattle.group_calls.specs.declared.event.Event.{Event}
use Rattle.group_run.specs.Headline.{Headline, IsRun}
use Rattle.group_run.specs.Meaning.{IsDown}
use Rattle.group_run.specs.World.{after, turns_of}
use Rattle.group_layout.specs.Cluster.{ClusterEntry, GroupTurn, Groups, IsLayout, MayAllHappen, MayAllMove, Move}
use Rattle.group_layout.specs.Cluster.{all_moved, cluster_after, cluster_turns, logged_in, opening_cluster}
use Rattle.group_layout.specs.Cluster.{opening_groups, turns_made, world_in}
use Rattle.group_layout.specs.Layout.{group_of}
use Rattle.group_layout.specs.Legal.{IsClusterLegal}
use Rattle.group_layout.specs.Within.{ClusterAnswersWithin, of_group, turns_in}
use Rattle.group_layout.specs.declared.event.ClusterEvent.{ClusterEvent}

-- a group's events among moves, and its entries
abbrev pub events_in : ℕ → List Move → List Event
events_in j moves = of_group (λ m. m.group) (λ m. m.event) j moves

abbrev pub entries_in : ℕ → List ClusterEntry → List Entry
entries_in j entries = of_group (λ e. e.0) (λ e. e.1) j entries

-- a group makes a run of its own: it stands as the run leaves it, its turns and its part of the log are the run's,
-- its part of the log is legal, and the headline holds
pub record MakesARun (s : Dimensions) (g : Groups) (made : List GroupTurn) (j : ℕ) : Type 0 where
  pub events : List Event
  pub run : IsRun s events
  pub stands : world_in g j ≡ after s events
  pub turns : turns_in j made ≡ turns_of s events
  pub entries : entries_in j g.log ≡ (after s events).log
  pub legal : IsLegal s.k (entries_in j g.log)
  pub headline : Headline s events

-- groups whose turns were these: the log is what the turns logged, in order, and each group makes a run of its own
pub record AreRuns (s : Dimensions) (count : ℕ) (g : Groups) (turns : List GroupTurn) : Type 0 where
  pub log : g.log ≡ logged_in turns
  pub each : (j : ℕ) → j < count → MakesARun s g turns j

-- groups, whatever moves they make
abbrev pub MovesAreRuns : Type 0
MovesAreRuns = (s : Dimensions) (count : ℕ) (moves : List Move) → IsShape s → MayAllMove (opening_groups s count) moves
    → AreRuns s count (all_moved (opening_groups s count) moves) (turns_made (opening_groups s count) moves)

-- a cluster, whatever events happen
abbrev pub ClustersAreRuns : Type 0
ClustersAreRuns = (s : Dimensions) (n count : ℕ) (es : List ClusterEvent) → IsShape s → IsLayout s n count → MayAllHappen (opening_cluster s n count) es
    → AreRuns s count (cluster_after (opening_cluster s n count) es).groups (cluster_turns (opening_cluster s n count) es)

-- while at most m nodes have failed no group is down
abbrev pub FewFailuresAreBorne : Type 0
FewFailuresAreBorne = (s : Dimensions) (n count : ℕ) (es : List ClusterEvent) → IsShape s → IsLayout s n count → MayAllHappen (opening_cluster s n count) es
    → count_dead_words (cluster_after (opening_cluster s n count) es).failed ≤ s.m
    → (j : ℕ) → j < count → ¬ (IsDown (world_in (cluster_after (opening_cluster s n count) es).groups j))

-- the answers of a cluster, whatever events happen
abbrev pub AnswersAreWithin : Type 0
AnswersAreWithin = (s : Dimensions) (n count : ℕ) (es : List ClusterEvent) → IsShape s → IsLayout s n count → MayAllHappen (opening_cluster s n count) es
    → ClusterAnswersWithin s.k (cluster_turns (opening_cluster s n count) es)

-- each entry of the log is of its key's group
abbrev pub IsOwn : ℕ → ℕ → ClusterEntry → Type 0
IsOwn k count entry = group_of (key_of entry.1.op.act) k count ≡ entry.0

abbrev pub EntriesAreOwn : Type 0
EntriesAreOwn = (s : Dimensions) (n count : ℕ) (es : List ClusterEvent) → IsShape s → IsLayout s n count → MayAllHappen (opening_cluster s n count) es
    → All (IsOwn s.k count) (cluster_after (opening_cluster s n count) es).groups.log

-- the log is legal: its replies are those of one table over all keys
abbrev pub LogsAreLegal : Type 0
LogsAreLegal = (s : Dimensions) (n count : ℕ) (es : List ClusterEvent) → IsShape s → IsLayout s n count → MayAllHappen (opening_cluster s n count) es
    → IsClusterLegal s.k (cluster_after (opening_cluster s n count) es).groups.log
