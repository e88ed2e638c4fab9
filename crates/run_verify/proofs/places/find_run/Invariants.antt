use Rattle.std.proofs.Common.{Option, length}
use Rattle.group_types.specs.declared.run.Run.{Run}
use Rattle.run_verify.specs.Runs.{IsRunAmong}
use Rattle.run_verify.proofs.places.find_run.Given as goal

abbrev pub invariant-places : goal.invariant-places
invariant-places l = record {
  is : (found : Option Run) → IsRunAmong l.rest l.shape l.partition l.number l.len found
      → IsRunAmong l.places l.shape l.partition l.number l.len found;
}

abbrev pub decreases-places : goal.decreases-places
decreases-places l = length l.rest
