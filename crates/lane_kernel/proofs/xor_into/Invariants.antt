use Rattle.field_byte.specs.Vectors.{add_bytes}
use Rattle.lane_kernel.proofs.Chunks.{Written}
use Rattle.lane_kernel.proofs.xor_into.Given as goal

abbrev pub invariant-bytes : goal.invariant-bytes
invariant-bytes l = Written l.at l.initial.dst (add_bytes l.initial.dst l.src) l.dst
