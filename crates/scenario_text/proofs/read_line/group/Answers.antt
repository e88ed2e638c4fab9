use Rattle.scenario_text.proofs.Limits.{group_within-shape, group_within-fault}
use Rattle.scenario_text.proofs.read_line.group.Goals as goal

pub returns-in-Ok-clause-meaning : goal.returns-in-Ok-clause-meaning
returns-in-Ok-clause-meaning c =
    group_within-shape (record { k = c.args.k; m = c.args.m; blocks = c.args.blocks; block = c.args.block })
    c.in-Ok.shape c.in-Ok.ensures.0 c.in-Ok.ensures.1

pub returns-in-Err-clause-meaning : goal.returns-in-Err-clause-meaning
returns-in-Err-clause-meaning c =
    group_within-fault (record { k = c.args.k; m = c.args.m; blocks = c.args.blocks; block = c.args.block })
    c.in-Err.bad.field c.in-Err.ensures
