use Rattle.std.proofs.Common.{◌++◌}
use Rattle.link_frames.proofs.writing.sum_of.Goals as goal

pub returns : goal.returns
returns c =
    let len = c.args.len.now in
    let before = c.args.before.now in
    c.extended-2.ensures ((len ++ before) ++ c.args.value.now) (c.extended.ensures (len ++ before) (c.extended-sum.ensures len c.checksum.ensures))
