use Rattle.std.proofs.Common.{get_or, bit_xor, ap, ◌∙◌, arith}
use Rattle.field_byte.specs.Field.{product}
use Rattle.field_byte.proofs.Sums.{sum_lt, same_from_sum_zero}
use Rattle.field_byte.proofs.Products.{inverse_lt, product_inverse}
use Rattle.field_matrix.proofs.square.Square.cauchy.Goals as goal

pub invariant_of-result : goal.invariant_of-result
invariant_of-result g c i j i_below j_below =
    omega (arith, c.rows.invariant.done i j (omega arith) j_below, inverse_lt (bit_xor (get_or c.args.rows.now i 0) (get_or c.args.columns.now j 0)))

pub returns-clause-bytes : goal.returns-clause-bytes
returns-clause-bytes g c i j i_below j_below =
    omega (arith, c.rows.invariant.done i j (omega arith) j_below, inverse_lt (bit_xor (get_or c.args.rows.now i 0) (get_or c.args.columns.now j 0)))

pub returns-clause-cauchy : goal.returns-clause-cauchy
returns-clause-cauchy g c = record {
  x = λ i. get_or c.args.rows.now i 0;
  y = λ j. get_or c.args.columns.now j 0;
  x_bytes = λ i below. c.rows.invariant.row_bytes i (omega arith);
  y_bytes = λ j below. c.rows.invariant.column_bytes j j (omega arith);
  x_differ = c.requires.rows;
  y_differ = c.requires.columns;
  inverses = λ i j i_below j_below.
      let sum_byte = sum_lt _ _ (c.rows.invariant.row_bytes i (omega arith)) (c.rows.invariant.column_bytes i j (omega arith)) in
      ap (product (bit_xor (get_or c.args.rows.now i 0) (get_or c.args.columns.now j 0))) (c.rows.invariant.done i j (omega arith) j_below)
      ∙ product_inverse _ sum_byte (λ is_zero. c.requires.apart i j i_below j_below (same_from_sum_zero _ _ is_zero));
}
