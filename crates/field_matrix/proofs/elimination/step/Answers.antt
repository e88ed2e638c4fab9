use Rattle.std.proofs.Common.{rules, ◌≡◌, length, length-set, get_or, [], sym, ap, ◌∙◌, arith}
use Rattle.field_byte.specs.Field.{product}
use Rattle.field_matrix.specs.Grids.{entry}
use Rattle.field_matrix.proofs.Rows.{multiple_at, row_added, step_done}
use Rattle.field_matrix.proofs.elimination.step.Goals as goal

pub rows-preserved : goal.rows-preserved
rows-preserved g c =
    let row_long : length (get_or c.args.rows.now c.rows.r []) ≡ g.row.F = search rules in
    let divided_long : length c.mul_add_into.new.dst ≡ g.row.F = search rules in
    record {
      long = length-set c.rows.next c.rows.r _ ∙ c.rows.invariant.long;
      added = row_added g.row.F c.rows.r c.args.p c.args.work.now c.args.rows.now c.rows.next c.mul_add_into.new.dst _
          (omega (arith, c.rows.invariant.long)) (row_long ∙ sym divided_long)
          c.mul_add_into-in-rows.ensures c.rows.invariant.added;
    }

pub returns : goal.returns
returns g c =
    let row_long : length (get_or c.args.rows.now c.args.p []) ≡ g.row.F = search rules in
    step_done g.row.F c.rows.r c.args.p c.args.work.now c.args.rows.now c.rows.next c.mul_add_into.new.dst
    c.rows-test.false (omega (arith, c.rows.invariant.long, c.requires.p))
    (λ j below. multiple_at g.row.F c.inv.result j (get_or c.args.rows.now c.args.p []) c.mul_add_into.new.dst row_long below c.mul_add_into.ensures
    ∙ ap (λ x. product x (entry c.args.rows.now c.args.p j)) c.inv.ensures.inverse) c.rows.invariant.added
