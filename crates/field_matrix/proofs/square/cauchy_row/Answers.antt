use Rattle.std.proofs.Common.{◌≢◌, ◌<◌, ◌∙◌, length, length-set, below_more, get_or-set_other, get_or-set_same, arith}
use Rattle.field_matrix.proofs.square.cauchy_row.Goals as goal

pub columns-preserved : goal.columns-preserved
columns-preserved g c = record {
  long = length-set c.columns.row c.columns.j c.inv.result ∙ c.columns.invariant.long;
  done = below_more _ c.columns.j
      (λ k below. let other : k ≢ c.columns.j = omega arith in rw get_or-set_other (c.columns.invariant.done k below))
      (let within : c.columns.j < length c.columns.row = omega (arith, c.columns.invariant.long) in rw get_or-set_same c.inv.ensures.inverse);
}
