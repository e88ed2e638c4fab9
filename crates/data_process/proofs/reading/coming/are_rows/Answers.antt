use Rattle.std.proofs.Common.{sym, ◌∙◌, arith}
use Rattle.data_process.proofs.Rows.{one-more, seen-before}
use Rattle.data_process.proofs.reading.coming.are_rows.Goals as goal

pub returns-then-contains : goal.returns-then-contains
returns-then-contains c = (
  λ no. absurd (cc no),
  λ are. absurd (seen-before c.args.m c.args.rows.now c.each.at _ c.each-test.true (sym c.contains.ensures.value ∙ c.if-contains.true) are),
)

pub each-preserved : goal.each-preserved
each-preserved c =
    one-more c.args.m c.args.rows.now c.each.at _ c.each-test.true (omega (arith, c.if-m-row.false))
    (sym c.contains.ensures.value ∙ c.if-contains.false) c.each.invariant
