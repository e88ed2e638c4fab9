use Rattle.std.proofs.Common.{get_or, bit_xor, sym, ap, ◌∙◌, arith}
use Rattle.field_byte.proofs.Vectors.{get_or-scale, length-add_scaled, length-scale}
use Rattle.lane_kernel.proofs.Chunks.{byte_added, all_written}
use Rattle.lane_kernel.proofs.plain.mul_add_into.Goals as goal

pub bytes-preserved : goal.bytes-preserved
bytes-preserved c =
    let src = c.args.src.now in
    byte_added c.bytes.at c.args.dst.now _ c.bytes.dst _ (sym (length-scale c.args.coef src ∙ c.requires)) (omega arith)
    (ap (bit_xor (get_or c.bytes.dst c.bytes.at 0)) (c.mul.ensures ∙ sym (get_or-scale c.args.coef src c.bytes.at))) c.bytes.invariant

pub returns : goal.returns
returns c = all_written c.bytes.at c.args.dst.now _ c.bytes.dst (omega arith)
    (length-add_scaled c.args.coef c.args.src.now c.args.dst.now c.requires) c.bytes.invariant
