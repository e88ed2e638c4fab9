use Rattle.std.proofs.Common.{ℕ, ◌-◌, List, length, slice_index, ap, ◌∙◌, arith}
use Rattle.group_types.specs.Dimensions.{Dimensions}
use Rattle.group_run.specs.Applying.{replica_of}
use Rattle.process_service.specs.Standing.{Standing}
use Rattle.row_copies.proofs.Added.{numbers_long, still_zero, write_more}
use Rattle.parity_process.proofs.process.ParityProcess.stamp.Goals as goal

pub raise-requires-clause-partition : goal.raise-requires-clause-partition
raise-requires-clause-partition c =
    let f : ℕ → ℕ = λ d. (replica_of c.args.self.now.process d).applied in
    let long = ap length c.partitions.invariant ∙ numbers_long f 0 c.partitions.d (c.args.self.now.shape.k - c.partitions.d) in
    omega (
      arith,
      long,
      c.partitions-test.true,
      c.k-k.ensures.value,
      ap (λ (x : Dimensions). x.k) c.shape.ensures,
      ap (λ (p : Standing). p.shape.k) c.self.view_is,
    )

pub raise-requires-clause-rises : goal.raise-requires-clause-rises
raise-requires-clause-rises c =
    let f : ℕ → ℕ = λ d. (replica_of c.args.self.now.process d).applied in
    let none = ap (λ (xs : List ℕ). slice_index xs c.partitions.d) c.partitions.invariant
    ∙ still_zero f 0 c.partitions.d (c.args.self.now.shape.k - c.partitions.d) in
    omega (arith, none)

pub partitions-preserved : goal.partitions-preserved
partitions-preserved c =
    let f : ℕ → ℕ = λ d. (replica_of c.args.self.now.process d).applied in
    let wide = ap (λ (p : Standing). p.shape.k) c.self.view_is in
    c.raise.ensures
    ∙ write_more f c.partitions.d c.args.self.now.shape.k c.applied.result c.partitions.stamp
    (omega (arith, c.partitions-test.true, c.k-k.ensures.value, ap (λ (x : Dimensions). x.k) c.shape.ensures, wide))
    (c.applied.ensures ∙ ap (λ (p : Standing). (replica_of p.process c.partitions.d).applied) c.self.view_is) c.partitions.invariant
