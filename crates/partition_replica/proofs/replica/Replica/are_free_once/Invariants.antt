use Rattle.std.proofs.Common.{◌≡◌, ◌≤◌, ◌+◌, ◌-◌}
use Rattle.group_types.specs.Dimensions.{space_of}
use Rattle.run_alloc.specs.Free.{AllFree}
use Rattle.group_run.specs.Free.{is_free}
use Rattle.partition_replica.specs.Coming.{once_applied}
use Rattle.partition_replica.proofs.replica.Replica.are_free_once.Given as goal

abbrev pub invariant-parts : goal.invariant-parts
invariant-parts l = record {
  span : l.at + l.left ≡ l.fn.run.at + l.fn.run.len;
  low : l.fn.run.at ≤ l.at;
  free : AllFree (is_free (space_of l.self.shape) (once_applied l.drops l.stable l.self.replica)) l.fn.run.at (l.at - l.fn.run.at);
}

abbrev pub decreases-parts : goal.decreases-parts
decreases-parts l = l.left
