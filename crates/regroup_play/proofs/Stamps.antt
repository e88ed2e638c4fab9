-- A stamp's numbers are of partitions.
use Rattle.std.proofs.Common.{ℕ, ◌≡◌, ◌+◌, ◌≤◌, length, arith}
use Rattle.std.proofs.lemmas.List.FromFn.{length-map-range_with_len}
use Rattle.group_types.specs.Names.{IsProcess}
use Rattle.group_types.specs.declared.process.ProcessId.{ProcessId}
use Rattle.group_types.specs.declared.process.ProcessId.TheVariants.{DataNode, ParityNode}
use Rattle.group_run.specs.Applying.{replica_of}
use Rattle.group_run.specs.Meaning.{process_of}
use Rattle.group_run.specs.Shown.{stamp_of}
use Rattle.group_run.specs.World.{World}
use Rattle.group_eras.specs.Eras.{stamp_from}

pub stamp-fits : (w : World) (p : ProcessId) (first many : ℕ) → IsProcess w.shape p → first ≡ stamp_from p
    → many ≡ length (stamp_of w p) → first + many ≤ w.shape.k
stamp-fits w (DataNode d) first many there first_is many_is = omega (arith, there, first_is, many_is)
stamp-fits w (ParityNode i) first many there first_is many_is =
    let long = length-map-range_with_len (λ d. (replica_of (process_of w (ParityNode i)) d).applied) 0 w.shape.k in omega (arith, first_is, many_is, long)
