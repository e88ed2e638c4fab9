-- What reading a line's words gives.
use Rattle.std.specs.Prelude.{◌≡◌, Result, Ok, Err, ⊤}
use Rattle.group_cluster.specs.Plan.{Plan}
use Rattle.cluster_run.specs.declared.fault.ClusterFault.{ClusterFault}
use Rattle.cluster_run.specs.declared.fault.ClusterFault.TheVariants.{BadLayout, BadLine, Want}

-- an answer is the meaning, but that want of memory may come at any time
abbrev pub IsPlanRead : Result Plan ClusterFault → Result Plan ClusterFault → Type 0
IsPlanRead (Ok plan) meaning = meaning ≡ Ok plan
IsPlanRead (Err BadLine) meaning = meaning ≡ Err BadLine
IsPlanRead (Err (BadLayout field)) meaning = meaning ≡ Err (BadLayout field)
IsPlanRead (Err Want) meaning = ⊤
