use Rattle.std.proofs.Common.{◌∙◌}
use Rattle.block_sessions.proofs.Areas.{part_before, part_behind}
use Rattle.block_sessions.proofs.area.add_area.Goals as goal

pub returns-then-at-from : goal.returns-then-at-from
returns-then-at-from c = c.add_at.ensures ∙ part_before c.args.from c.args.at c.args.delta.now c.args.area.now
    c.min-len.result c.if-at-from.true c.min-len.ensures

pub returns-else-at-from : goal.returns-else-at-from
returns-else-at-from c = c.add_at-else-at-from.ensures ∙ part_behind c.args.from c.args.at c.args.delta.now
    c.args.area.now c.min-len-else-at-from.result c.if-at-from.false c.min-len-else-at-from.ensures
