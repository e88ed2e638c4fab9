use Rattle.lane_kernel.proofs.FourSums.{four_summed}
use Rattle.lane_kernel.proofs.lanes.sums_of_four.Goals as goal

pub returns-clause-first : goal.returns-clause-first
returns-clause-first c =
    four_summed c.args.in_first.now c.args.a c.args.b c.args.c c.args.d _ _ _ _ c.type_inv.in_first
    c.product_32-first.result c.add_product_32-first_b.result c.add_product_32-first_c.result _
    c.product_32-first.ensures c.add_product_32-first_b.ensures c.add_product_32-first_c.ensures c.add_product_32-first_d.ensures

pub returns-clause-second : goal.returns-clause-second
returns-clause-second c =
    four_summed c.args.in_second.now c.args.a c.args.b c.args.c c.args.d _ _ _ _ c.type_inv.in_second
    c.product_32-second.result c.add_product_32-second_b.result c.add_product_32-second_c.result _
    c.product_32-second.ensures c.add_product_32-second_b.ensures c.add_product_32-second_c.ensures c.add_product_32-second_d.ensures
