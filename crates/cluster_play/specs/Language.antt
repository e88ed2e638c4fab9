-- The language of scripts of several groups.
use Rattle.std.specs.Prelude.{ℕ}
use Rattle.group_cluster.specs.declared.layout.LayoutField.TheVariants.{Groups, Nodes, Shape}
use Rattle.scenario_play.specs.Language.{Language}
use Rattle.scenario_play.specs.Status.{status_of_lines}
use Rattle.scenario_play.specs.declared.status.Count.TheVariants as count
use Rattle.scenario_play.specs.declared.status.Status.{Status}
use Rattle.scenario_play.specs.declared.status.Status.TheVariants as status
use Rattle.cluster_run.specs.Promises.{KeepsPromises}
use Rattle.cluster_run.specs.Script.{first_fault, transcript}
use Rattle.cluster_run.specs.declared.fault.ClusterFault.{ClusterFault}
use Rattle.cluster_run.specs.declared.fault.ClusterFault.TheVariants.{BadLayout, BadLine, Want}

-- what is told of a line that is refused
abbrev pub told_at : ℕ → ClusterFault → Status
told_at n BadLine = status.BadLine n
told_at n (BadLayout Groups) = status.BadCount count.Groups
told_at n (BadLayout Nodes) = status.BadCount count.Nodes
told_at n (BadLayout (Shape field)) = status.BadShape field
told_at n Want = status.Want

abbrev pub cluster_scripts : Language
cluster_scripts = record { transcript = transcript; verdict = λ text. status_of_lines told_at (first_fault text); Promise = KeepsPromises }
