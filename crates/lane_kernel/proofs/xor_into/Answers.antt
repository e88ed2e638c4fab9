use Rattle.std.proofs.Common.{refl, sym, arith}
use Rattle.field_byte.proofs.Vectors.{length-add_bytes}
use Rattle.lane_kernel.proofs.Chunks.{byte_added, all_written}
use Rattle.lane_kernel.proofs.xor_into.Goals as goal

pub bytes-preserved : goal.bytes-preserved
bytes-preserved c = byte_added c.bytes.at c.args.dst.now c.args.src.now c.bytes.dst _ (sym c.requires) (omega arith) refl c.bytes.invariant

pub returns : goal.returns
returns c = all_written c.bytes.at c.args.dst.now _ c.bytes.dst (omega arith)
    (length-add_bytes c.args.dst.now c.args.src.now (sym c.requires)) c.bytes.invariant
