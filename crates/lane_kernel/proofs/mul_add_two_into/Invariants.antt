use Rattle.std.proofs.Common.{◌-◌, ◌≤◌, get_or}
use Rattle.lane_kernel.specs.Sums.{add_two}
use Rattle.lane_kernel.proofs.Chunks.{Written}
use Rattle.lane_kernel.proofs.mul_add_two_into.Given as goal

abbrev pub invariant-turns : goal.invariant-turns
invariant-turns l = record {
  within : l.at ≤ l.len;
  first : Written l.at l.fn.first (add_two (get_or l.fn.in_first 0 0) (get_or l.fn.in_first 1 0) l.a l.b l.fn.first) l.first;
  second : Written l.at l.fn.second (add_two (get_or l.fn.in_second 0 0) (get_or l.fn.in_second 1 0) l.a l.b l.fn.second) l.second;
}

abbrev pub decreases-turns : goal.decreases-turns
decreases-turns l = l.len - l.at
