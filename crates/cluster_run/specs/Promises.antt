-- What holds of every script's cluster: its events may happen, so the laws of clusters are about it; and the lines that show
-- bytes show what the log of their group tells.
use Rattle.std.specs.Prelude.{ℕ, ◌≡◌, ◌<◌, ◌≤◌, List, [], ◌∷◌, All, length, take, Option, Some, None}
use Rattle.group_run.specs.Meaning.{IsDown}
use Rattle.membership.specs.Members.{count_dead_words}
use Rattle.group_layout.specs.Cluster.{Cluster, MayAllHappen, cluster_after, cluster_turns, world_in}
use Rattle.group_layout.specs.Legal.{IsClusterLegal}
use Rattle.group_layout.specs.Promise.{AreRuns, IsOwn}
use Rattle.group_layout.specs.Within.{ClusterAnswersWithin}
use Rattle.group_layout.specs.declared.event.ClusterEvent.{ClusterEvent}
use Rattle.group_cluster.specs.Plan.{IsPlan, Plan}
use Rattle.scenario_text.specs.Meaning.{line_meaning}
use Rattle.scenario_run.specs.Course.{AllLines}
use Rattle.scenario_run.specs.Lines.{lines_of}
use Rattle.scenario_run.specs.Promises.{IsTrueShow, ShowsTruth}
use Rattle.cluster_run.specs.Meaning.{in_group}
use Rattle.cluster_run.specs.Playing.{ClusterPlay, cluster_log_of, cluster_turns_from, group_world, next_of, opening_of}
use Rattle.cluster_run.specs.Script.{cluster_script_events, cluster_script_turns, first_fault, plan_of}

-- the cluster at the end of events
abbrev pub cluster_at_end : Plan → List ClusterEvent → Cluster
cluster_at_end plan events = cluster_after (opening_of plan) events

-- what is written for a line of a group that shows bytes is what its log tells
abbrev pub IsTrueNamed : ClusterPlay → Option (ℕ × List ℕ) → List ℕ → Type 0
IsTrueNamed p None text = Unit {0}
IsTrueNamed p (Some named) text = IsTrueShow (ShowsTruth (group_world p named.0)) (line_meaning (Some p.cluster.groups.shape) named.1) text

abbrev pub IsTrueLine : Option ClusterPlay → List ℕ → List ℕ → Type 0
IsTrueLine None line text = Unit {0}
IsTrueLine (Some p) line text = IsTrueNamed p (in_group (length p.cluster.groups.worlds) line) text

-- and so it is with all lines
abbrev pub AreTrueLines : Option ClusterPlay → List (List ℕ) → Type 0
AreTrueLines play lines = AllLines next_of IsTrueLine play lines

-- after events each group makes a run of its own, with the whole headline, and while at most m nodes have failed none is down
pub record HoldsAfter (plan : Plan) (events : List ClusterEvent) : Type 0 where
  pub runs : AreRuns plan.shape plan.groups (cluster_at_end plan events).groups (cluster_turns (opening_of plan) events)
  pub borne : count_dead_words (cluster_at_end plan events).failed ≤ plan.shape.m → (j : ℕ) → j < plan.groups
      → ¬ (IsDown (world_in (cluster_at_end plan events).groups j))

-- a script's cluster keeps its promises
pub record KeepsPromises (text : List ℕ) : Type 0 where
  pub plan : Plan
  pub named : plan_of text ≡ Some plan
  pub limits : IsPlan plan
  -- its events may happen, its turns are the cluster's, and its log is what they logged
  pub may : MayAllHappen (opening_of plan) (cluster_script_events text)
  pub turns : cluster_turns_from (opening_of plan) (cluster_script_events text) ≡ cluster_script_turns text
  pub log : (cluster_at_end plan (cluster_script_events text)).groups.log ≡ cluster_log_of (cluster_script_turns text)
  -- so it is after each of the script's events
  pub holds : (n : ℕ) → HoldsAfter plan (take n (cluster_script_events text))
  -- the log is legal, and each entry is of its key's group
  pub legal : IsClusterLegal plan.shape.k (cluster_log_of (cluster_script_turns text))
  pub own : All (IsOwn plan.shape.k plan.groups) (cluster_log_of (cluster_script_turns text))
  -- each answered call stands in it once, between its asking and its answering
  pub within : ClusterAnswersWithin plan.shape.k (cluster_turns (opening_of plan) (cluster_script_events text))
  -- what is shown is what the log tells
  pub shown : AreTrueLines None (lines_of text)

-- the promises are kept by every script none of whose lines is refused
abbrev pub ScriptsKeepPromises : Type 0
ScriptsKeepPromises = (text : List ℕ) → first_fault text ≡ None → KeepsPromises text
