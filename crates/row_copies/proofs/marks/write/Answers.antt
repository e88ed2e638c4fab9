use Rattle.std.proofs.Common.{◌-◌, ℕ, List, length, unwrap_or, slice_index, Option, None, sym, ap, ◌∙◌, arith}
use Rattle.group_types.specs.Lists.{at}
use Rattle.group_types.proofs.Lists.{at_index}
use Rattle.row_copies.proofs.Added.{numbers_long, still_zero, write_more}
use Rattle.row_copies.proofs.marks.write.Goals as goal

pub raise-requires-clause-partition : goal.raise-requires-clause-partition
raise-requires-clause-partition c =
    let f : ℕ → ℕ = λ d. unwrap_or (at None c.args.marks.now d) 0 in
    let long = ap length c.partitions.invariant ∙ numbers_long f 0 c.partitions.d (c.args.k - c.partitions.d) in
    let below = c.partitions-test.true in
    omega (arith, long, below)

pub raise-requires-clause-rises : goal.raise-requires-clause-rises
raise-requires-clause-rises c =
    let f : ℕ → ℕ = λ d. unwrap_or (at None c.args.marks.now d) 0 in
    let zero' = ap (λ (xs : List ℕ). slice_index xs c.partitions.d) c.partitions.invariant ∙ still_zero f 0 c.partitions.d (c.args.k - c.partitions.d) in
    omega (arith, zero')

pub partitions-preserved : goal.partitions-preserved
partitions-preserved c =
    let f : ℕ → ℕ = λ d. unwrap_or (at None c.args.marks.now d) 0 in
    let below = c.partitions-test.true in
    let long = c.requires.marks in
    let read = at_index None None c.args.marks.now c.partitions.d (omega (arith, below, long)) in
    c.raise.ensures
    ∙ write_more f c.partitions.d c.args.k c.unwrap_or.result c.partitions.into below
    (c.unwrap_or.ensures ∙ ap (λ (m : Option ℕ). unwrap_or m 0) (sym read)) c.partitions.invariant
