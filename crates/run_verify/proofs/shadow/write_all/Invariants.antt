use Rattle.std.proofs.Common.{◌≡◌, All, length}
use Rattle.group_types.specs.Dimensions.{space_of}
use Rattle.run_verify.specs.Changes.{space_after_changes}
use Rattle.run_verify.specs.Showing.{IsFitChange}
use Rattle.run_verify.proofs.shadow.write_all.Given as goal

abbrev pub invariant-changes : goal.invariant-changes
invariant-changes l = record {
  same : space_after_changes l.space.items l.rest ≡ space_after_changes l.fn.space.items l.changes;
  long : length l.space.items ≡ space_of l.shape;
  fit : All (IsFitChange l.shape) l.rest;
}

abbrev pub decreases-changes : goal.decreases-changes
decreases-changes l = length l.rest
