use Rattle.std.proofs.Common.{get_or, sym, refl, ◌∙◌, arith}
use Rattle.lane_kernel.proofs.Chunks.{part_written, rest_written, two_parts}
use Rattle.lane_kernel.proofs.mul_add_two_into.Goals as goal

pub turns-preserved : goal.turns-preserved
turns-preserved c =
    let a = c.args.a.now in
    let b = c.args.b.now in
    let same = sym c.requires.second in
    let in_first = two_parts (get_or c.args.in_first 0 0) (get_or c.args.in_first 1 0) a b c.args.first.now c.requires.a c.requires.b in
    let in_second = two_parts (get_or c.args.in_second 0 0) (get_or c.args.in_second 1 0) a b c.args.second.now (c.requires.a ∙ same) (c.requires.b ∙ same) in
    record {
      within = c.turns-test.true;
      first = part_written in_first c.turns.at 32 c.turns.first _ c.turns-test.true (cc) c.turns.invariant.first;
      second = part_written in_second c.turns.at 32 c.turns.second _ (omega (arith, c.turns-test.true, c.requires.second)) (cc) c.turns.invariant.second;
    }

pub returns : goal.returns
returns c =
    let a = c.args.a.now in
    let b = c.args.b.now in
    let at = c.turns.at in
    let same = sym c.requires.second in
    let in_first = two_parts (get_or c.args.in_first 0 0) (get_or c.args.in_first 1 0) a b c.args.first.now c.requires.a c.requires.b in
    let in_second = two_parts (get_or c.args.in_second 0 0) (get_or c.args.in_second 1 0) a b c.args.second.now (c.requires.a ∙ same) (c.requires.b ∙ same) in
    record {
      first = rest_written in_first at at c.turns.first _ refl c.turns.invariant.within (cc) c.turns.invariant.first;
      second = rest_written in_second at at c.turns.second _ refl (omega (arith, c.turns.invariant.within, c.requires.second)) (cc) c.turns.invariant.second;
    }
