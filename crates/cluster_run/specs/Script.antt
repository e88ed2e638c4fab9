-- A script of several groups as a whole: its turns, its transcript, and the first line that is refused.
use Rattle.std.specs.Prelude.{ℕ, List, length, map, Option, None, option_map}
use Rattle.group_layout.specs.declared.event.ClusterEvent.{ClusterEvent}
use Rattle.group_cluster.specs.Plan.{Plan}
use Rattle.scenario_run.specs.Course.{Fault, fault_in, named_in, text_in, turns_of_lines}
use Rattle.scenario_run.specs.Lines.{lines_of}
use Rattle.cluster_run.specs.Playing.{ClusterPlay, ClusterTurn, next_of}
use Rattle.cluster_run.specs.declared.fault.ClusterFault.{ClusterFault}
use Rattle.cluster_run.specs.declared.fault.ClusterFault.TheVariants.{BadLine}

-- how many groups of which shape stand on how many nodes
abbrev pub plan_in : Option ClusterPlay → Option Plan
plan_in play = option_map (λ p. record { groups = length p.cluster.groups.worlds; nodes = length p.cluster.failed; shape = p.cluster.groups.shape }) play

-- a script's turns, its events, its transcript, its first fault, and the groups that it names
abbrev pub cluster_script_turns : List ℕ → List ClusterTurn
cluster_script_turns text = turns_of_lines next_of None (lines_of text)

abbrev pub cluster_script_events : List ℕ → List ClusterEvent
cluster_script_events text = map (λ turn. turn.event) (cluster_script_turns text)

abbrev pub transcript : List ℕ → List ℕ
transcript text = text_in next_of None (lines_of text)

abbrev pub first_fault : List ℕ → Option (Fault ClusterFault)
first_fault text = fault_in next_of BadLine 1 None (lines_of text)

abbrev pub plan_of : List ℕ → Option Plan
plan_of text = plan_in (named_in next_of None (lines_of text))
