use Rattle.std.proofs.Common.{◌≡◌, ◌-◌, ◌%◌, length, sym, ap₂, ◌∙◌, arith}
use Rattle.field_byte.specs.Vectors.{add_bytes}
use Rattle.lane_kernel.proofs.Chunks.{part_written}
use Rattle.lane_kernel.proofs.FourSums.{four_parts, four_rest}
use Rattle.lane_kernel.proofs.fours.sum_into.Goals as goal

pub turns-preserved : goal.turns-preserved
unfolding add_bytes
turns-preserved c =
    let from = c.args.from.now in
    let same = sym c.requires.second in
    let in_first = four_parts c.args.in_first.now from.a.now from.b.now from.c.now from.d.now c.args.first.now
    c.requires.a c.requires.b c.requires.c c.requires.d c.args.keep in
    let in_second = four_parts c.args.in_second.now from.a.now from.b.now from.c.now from.d.now c.args.second.now
    (c.requires.a ∙ same) (c.requires.b ∙ same) (c.requires.c ∙ same) (c.requires.d ∙ same) c.args.keep in
    record {
      within = c.turns-test.true;
      whole = omega (arith, c.turns.invariant.whole);
      first = part_written in_first c.turns.at 32 c.turns.first _ c.turns-test.true
          (ap₂ add_bytes c.keep_or_zeros.ensures c.sums_of_four.ensures.first) c.turns.invariant.first;
      second = part_written in_second c.turns.at 32 c.turns.second _ (omega (arith, c.turns-test.true, c.requires.second))
          (ap₂ add_bytes c.keep_or_zeros-in-turns.ensures c.sums_of_four.ensures.second) c.turns.invariant.second;
    }

pub returns : goal.returns
returns c =
    let from = c.args.from.now in
    let len = length c.args.first.now in
    let end = len - len % 32 in
    let same = sym c.requires.second in
    let reached : c.turns.at ≡ end = omega (arith, c.turns.invariant.within, c.turns.invariant.whole, c.turns-test.false) in
    record {
      first = four_rest c.args.in_first.now from.a.now from.b.now from.c.now from.d.now c.args.first.now c.requires.a
          c.requires.b c.requires.c c.requires.d c.args.keep
          c.turns.at end c.turns.first _ reached (omega arith) c.sum_four.ensures c.turns.invariant.first;
      second = four_rest c.args.in_second.now from.a.now from.b.now from.c.now from.d.now c.args.second.now
          (c.requires.a ∙ same) (c.requires.b ∙ same) (c.requires.c ∙ same) (c.requires.d ∙ same) c.args.keep
          c.turns.at end c.turns.second _ reached (omega (arith, c.requires.second)) c.sum_four-2.ensures c.turns.invariant.second;
    }
