use Rattle.std.proofs.Common.{◌<◌, get_or, bit_xor, sym, ap, ◌∙◌, refl}
use Rattle.field_byte.specs.Field.{product}
use Rattle.erasure_code.specs.Code.{coefficient}
use Rattle.group_types.proofs.Places.{number_at}
use Rattle.cauchy_code.specs.Solving.{row_coefficient}
use Rattle.cauchy_code.proofs.Terms.{sum_none, number_holds, weight_more}
use Rattle.cauchy_code.proofs.column.known_weight.Goals as goal

pub rows-init : goal.rows-init
rows-init c = sum_none (λ a. product (get_or c.args.weights.now a 0) (row_coefficient c.args.m c.args.rows.now a c.args.d))

pub coefficient-requires-clause-i : goal.coefficient-requires-clause-i
coefficient-requires-clause-i c = number_holds (λ i. i < c.args.m) c.args.rows.now c.rows.a c.index-rows-a.result c.requires.rows_below c.rows-test.true

pub rows-preserved : goal.rows-preserved
rows-preserved c =
    let here = number_at c.args.rows.now c.rows.a c.index-rows-a.result c.rows-test.true in
    ap (bit_xor c.rows.weight) (c.mul-weight.ensures ∙ ap (product (get_or c.args.weights.now c.rows.a 0))
    (c.coefficient.ensures.value ∙ ap (λ i. coefficient c.args.m i c.args.d) (sym here)))
    ∙ weight_more c.rows.a c.args.m (λ a. get_or c.args.weights.now a 0) c.args.rows.now c.args.d c.rows.weight _ _ c.rows.invariant refl refl
