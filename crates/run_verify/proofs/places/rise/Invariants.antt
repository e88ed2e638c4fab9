use Rattle.std.proofs.Common.{length}
use Rattle.run_verify.specs.Runs.{Rise}
use Rattle.run_verify.proofs.places.rise.Given as goal

abbrev pub invariant-places : goal.invariant-places
invariant-places l = record { all : Rise l.rest → Rise l.places }

abbrev pub decreases-places : goal.decreases-places
decreases-places l = length l.rest
