use Rattle.std.proofs.Common.{sym, ap, ◌∙◌}
use Rattle.field_byte.specs.Vectors.{add_bytes}
use Rattle.lane_kernel.specs.Sums.{sum_of_four}
use Rattle.lane_kernel.proofs.FourSums.{one_by_one, two_and_two}
use Rattle.lane_kernel.proofs.fours.sum_four.Goals as goal

pub returns : goal.returns
returns c =
    let by = c.args.by.now in
    let from = c.args.from.now in
    let begun = c.keep_or_clear.new.bytes in
    let same = sym c.keep_or_clear.auto.bytes in
    two_and_two by from.a.now from.b.now from.c.now from.d.now _ _ _ _ c.type_inv.by begun c.add_both_by.new.dst _ c.add_both_by.ensures c.add_both_by-2.ensures
    ∙ (one_by_one by from.a.now from.b.now from.c.now from.d.now begun (c.requires.a ∙ same) (c.requires.b ∙ same) (c.requires.c ∙ same) (c.requires.d ∙ same)
    ∙ ap (λ l. add_bytes l (sum_of_four by from.a.now from.b.now from.c.now from.d.now)) c.keep_or_clear.ensures)
