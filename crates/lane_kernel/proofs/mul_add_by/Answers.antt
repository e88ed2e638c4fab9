use Rattle.std.proofs.Common.{◌-◌, length, arith}
use Rattle.lane_kernel.proofs.Chunks.{last_written, part_written, product_parts}
use Rattle.lane_kernel.proofs.mul_add_by.Goals as goal

pub turns-preserved : goal.turns-preserved
turns-preserved c =
    let parts = product_parts c.args.coef.now c.args.src.now c.args.dst.now c.requires in
    record {
      within = c.turns-test.true;
      written = part_written parts c.turns.at 64 c.turns.dst _ c.turns-test.true c.add_product_64-sum.ensures c.turns.invariant.written;
    }

pub vectors-preserved : goal.vectors-preserved
vectors-preserved c =
    let parts = product_parts c.args.coef.now c.args.src.now c.args.dst.now c.requires in
    record {
      within = c.vectors-test.true;
      written = part_written parts c.vectors.at 16 c.vectors.dst _ c.vectors-test.true c.add_product_16-sum.ensures c.vectors.invariant.written;
    }

pub returns : goal.returns
returns c =
    let end = length c.args.dst.now - 16 in
    let parts = product_parts c.args.coef.now c.args.src.now c.args.dst.now c.requires in
    last_written parts c.vectors.at end 16 c.vectors.dst _ (omega arith) (omega arith) c.add_product_16-last.ensures c.vectors.invariant.written
