use Rattle.field_byte.specs.Vectors.{add_bytes, scale}
use Rattle.lane_kernel.proofs.Chunks.{Written}
use Rattle.lane_kernel.proofs.plain.mul_add_into.Given as goal

abbrev pub invariant-bytes : goal.invariant-bytes
invariant-bytes l = Written l.at l.initial.dst (add_bytes l.initial.dst (scale l.coef l.src)) l.dst
