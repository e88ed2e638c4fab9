use Rattle.scenario_text.specs.declared.line.LineFault.{LineFault}
use Rattle.scenario_text.specs.declared.line.LineFault.TheVariants as line
use Rattle.cluster_run.specs.declared.fault.ClusterFault.{ClusterFault}
use Rattle.cluster_run.specs.declared.fault.ClusterFault.TheVariants.{BadLine, Want}

-- a group's line that is refused
abbrev pub fault_of : LineFault → ClusterFault
fault_of line.BadLine = BadLine
fault_of (line.BadShape field) = BadLine
fault_of line.Want = Want
