use Rattle.std.proofs.Common.{◌-◌, ◌≤◌}
use Rattle.field_byte.specs.Vectors.{add_bytes, scale}
use Rattle.lane_kernel.proofs.Chunks.{Written}
use Rattle.lane_kernel.proofs.mul_add_by.Given as goal

abbrev pub invariant-turns : goal.invariant-turns
invariant-turns l = record {
  within : l.at ≤ l.len;
  written : Written l.at l.fn.dst (add_bytes l.fn.dst (scale l.coef l.src)) l.dst;
}

abbrev pub decreases-turns : goal.decreases-turns
decreases-turns l = l.len - l.at

abbrev pub invariant-vectors : goal.invariant-vectors
invariant-vectors l = record {
  within : l.at ≤ l.len;
  written : Written l.at l.fn.dst (add_bytes l.fn.dst (scale l.coef l.src)) l.dst;
}

abbrev pub decreases-vectors : goal.decreases-vectors
decreases-vectors l = l.len - l.at
