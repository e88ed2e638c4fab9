-- What is promised of every cluster, also where want of memory cut the failure of a node short.
use Rattle.std.specs.Prelude.{ℕ, ◌≡◌, ◌<◌, ◌≤◌, Bool, false, List, [], ◌∷◌, None, All, replicate}
use Rattle.group_types.specs.Each.{Each}
use Rattle.membership.specs.Members.{count_dead_words}
use Rattle.group_run.specs.Meaning.{IsDown}
use Rattle.group_layout.specs.Cluster.{Cluster, GroupTurn, failed_nodes_after, opening_cluster, world_in}
use Rattle.group_layout.specs.Legal.{IsClusterLegal}
use Rattle.group_layout.specs.Promise.{AreRuns, IsOwn}
use Rattle.group_layout.specs.Within.{ClusterAnswersWithin}
use Rattle.group_cluster.specs.History.{Happening, HasHistory, all_turns}

-- the turns that led to it
abbrev pub turns_to : (c : Cluster) → HasHistory c → List GroupTurn
turns_to c led = all_turns (opening_cluster led.s led.n led.count) led.history

-- the nodes whose failure happened or began
abbrev pub failing_nodes : List Bool → List Happening → List Bool
failing_nodes nodes [] = nodes
failing_nodes nodes (h ∷ hs) = failing_nodes (failed_nodes_after nodes h.event) hs

abbrev pub nodes_touched : (c : Cluster) → HasHistory c → List Bool
nodes_touched c led = failing_nodes (replicate led.n false) led.history

pub record HasClusterPromise (c : Cluster) : Type 0 where
  pub led : HasHistory c
  -- each group makes a run of its own, with the whole headline
  pub runs : AreRuns led.s led.count c.groups (turns_to c led)
  -- the log is legal, and each entry is of its key's group
  pub legal : IsClusterLegal led.s.k c.groups.log
  pub own : All (IsOwn led.s.k led.count) c.groups.log
  -- each answered call stands in it once, between its asking and its answering
  pub within : ClusterAnswersWithin led.s.k (turns_to c led)
  -- while the failure of at most m nodes happened or began no group is down
  pub borne : count_dead_words (nodes_touched c led) ≤ led.s.m → (j : ℕ) → j < led.count → ¬ (IsDown (world_in c.groups j))
  -- these are the nodes that have failed, where no event was cut short
  pub failed : Each (λ h. h.made ≡ None) led.history → c.failed ≡ nodes_touched c led
