use Rattle.std.proofs.Common.{◌≡◌, ◌-◌, ◌≤◌, ◌%◌}
use Rattle.field_byte.specs.Vectors.{add_bytes}
use Rattle.lane_kernel.specs.Sums.{kept, sum_of_four}
use Rattle.lane_kernel.proofs.Chunks.{Written}
use Rattle.lane_kernel.proofs.fours.sum_into.Given as goal

abbrev pub invariant-turns : goal.invariant-turns
invariant-turns l = record {
  within : l.at ≤ l.len;
  whole : l.at % 32 ≡ 0;
  first : Written l.at l.fn.first (add_bytes (kept l.keep l.fn.first) (sum_of_four l.in_first l.from.a.now l.from.b.now l.from.c.now l.from.d.now)) l.first;
  second : Written l.at l.fn.second
      (add_bytes (kept l.keep l.fn.second) (sum_of_four l.in_second l.from.a.now l.from.b.now l.from.c.now
      l.from.d.now)) l.second;
}

abbrev pub decreases-turns : goal.decreases-turns
decreases-turns l = l.len - l.at
