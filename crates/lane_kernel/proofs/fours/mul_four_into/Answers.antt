use Rattle.std.proofs.Common.{sym, ◌∙◌}
use Rattle.lane_kernel.proofs.FourSums.{four_alone}
use Rattle.lane_kernel.proofs.fours.mul_four_into.Goals as goal

pub returns : goal.returns
returns c =
    let same = sym c.requires.second in
    record {
      first = c.sum_into.ensures.first ∙ four_alone c.args.in_first.now c.args.a.now c.args.b.now c.args.c.now
          c.args.d.now c.args.first.now c.requires.a c.requires.b c.requires.c c.requires.d;
      second = c.sum_into.ensures.second ∙ four_alone c.args.in_second.now c.args.a.now c.args.b.now c.args.c.now c.args.d.now c.args.second.now
          (c.requires.a ∙ same) (c.requires.b ∙ same) (c.requires.c ∙ same) (c.requires.d ∙ same);
    }
