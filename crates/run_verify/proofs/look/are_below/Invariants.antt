use Rattle.std.proofs.Common.{◌+◌, ◌≤◌, length}
use Rattle.std.specs.Prelude.{◌↔◌}
use Rattle.run_verify.specs.Accounts.{lists_of}
use Rattle.run_verify.specs.Showing.{AreBelow}
use Rattle.run_verify.proofs.look.are_below.Given as goal

abbrev pub invariant-partitions : goal.invariant-partitions
invariant-partitions l = record {
  same : AreBelow (lists_of l.changes) l.partition l.rest ↔ AreBelow (lists_of l.changes) l.from l.stamp;
  within : l.partition + length l.rest ≤ length l.changes;
}

abbrev pub decreases-partitions : goal.decreases-partitions
decreases-partitions l = length l.rest
