use Rattle.std.proofs.Common.{◌≡◌, ◌-◌, ◌++◌, map, replicate}
use Rattle.std.specs.List.{range_with_len}
use Rattle.group_run.specs.Applying.{replica_of}
use Rattle.parity_process.proofs.process.ParityProcess.stamp.Given as goal

abbrev pub invariant-partitions : goal.invariant-partitions
invariant-partitions l = l.stamp ≡ map (λ d. (replica_of l.fn.self.process d).applied) (range_with_len 0 l.d) ++ replicate (l.fn.self.shape.k - l.d) 0
