use Rattle.std.proofs.Common.{arith}
use Rattle.run_verify.proofs.items.Items.take.Goals as goal

pub returns-clause-told : goal.returns-clause-told
returns-clause-told c = (
  (
    c.cut_line.result.0.now,
    (c.cut_line.ensures.lines, c.cut_line.ensures.shorter),
    c.in_ok-tells.ensures.0 (grind arith),
  ),
  c.in_ok-put.ensures.marked,
  c.in_ok-put.ensures.runs,
)
