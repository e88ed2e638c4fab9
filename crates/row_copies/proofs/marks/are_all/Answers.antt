use Rattle.std.proofs.Common.{◌≡◌, ◌∙◌, ◌+◌, ◌-◌, ◌&&◌, ℕ, Bool, true, false, not, None, is_some, sym, ap, arith}
use Rattle.std.specs.List.{list_all, range_with_len}
use Rattle.group_types.specs.Lists.{at}
use Rattle.group_types.proofs.Lists.{at_index}
use Rattle.row_copies.proofs.Added.{all_from}
use Rattle.row_copies.proofs.marks.are_all.Goals as goal

pub returns-then-is_none : goal.returns-then-is_none
returns-then-is_none c =
    let marked : ℕ → Bool = λ d. is_some (at None c.args.marks.now d) in
    let below = c.partitions-test.true in
    let long = c.requires in
    let off : is_some (at None c.args.marks.now c.partitions.d) ≡ false =
    ap is_some (at_index None None c.args.marks.now c.partitions.d (omega (arith, below, long))) ∙ (c.is_none.ensures ∙ ap not c.if-is_none.true) in
    sym (ap (λ (b : Bool). b && list_all marked (range_with_len (c.partitions.d + 1) (c.args.k - (c.partitions.d + 1))))
    off) ∙ (sym (all_from marked c.partitions.d c.args.k below) ∙ c.partitions.invariant)

pub partitions-preserved : goal.partitions-preserved
partitions-preserved c =
    let marked : ℕ → Bool = λ d. is_some (at None c.args.marks.now d) in
    let below = c.partitions-test.true in
    let long = c.requires in
    let on : is_some (at None c.args.marks.now c.partitions.d) ≡ true =
    ap is_some (at_index None None c.args.marks.now c.partitions.d (omega (arith, below, long))) ∙ (c.is_none.ensures ∙ ap not c.if-is_none.false) in
    sym (ap (λ (b : Bool). b && list_all marked (range_with_len (c.partitions.d + 1) (c.args.k - (c.partitions.d + 1))))
    on) ∙ (sym (all_from marked c.partitions.d c.args.k below) ∙ c.partitions.invariant)
