use Rattle.regroup_play.proofs.Shapes.{within-bad, within-ok}
use Rattle.regroup_play.proofs.reading.shape_of.Goals as goal

pub returns-in-Ok-clause-meaning : goal.returns-in-Ok-clause-meaning
returns-in-Ok-clause-meaning c =
    within-ok (record { k = c.args.k; m = c.args.m; blocks = c.args.blocks; block = c.args.block }) c.in-Ok.shape
    c.in-Ok.ensures.0 c.in-Ok.ensures.1

pub returns-in-Err-clause-meaning : goal.returns-in-Err-clause-meaning
returns-in-Err-clause-meaning c =
    within-bad (record { k = c.args.k; m = c.args.m; blocks = c.args.blocks; block = c.args.block }) c.in-Err.bad.field
    c.in-Err.ensures
