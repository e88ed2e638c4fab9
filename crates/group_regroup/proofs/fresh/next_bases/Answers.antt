use Rattle.std.proofs.Common.{◌<◌, ◌≤◌, ℕ, List, sym, subst, ap, arith}
use Rattle.group_types.specs.Dimensions.{Dimensions}
use Rattle.group_regroup.proofs.Behind.{AreBases, bases-all, bases-next, bases-none}
use Rattle.group_regroup.proofs.fresh.next_bases.Goals as goal

pub partitions-init : goal.partitions-init
partitions-init c = subst (λ (xs : List ℕ). AreBases c.args.world.now c.args.bases.now xs 0)
    (sym c.new-next.ensures.items) (bases-none c.args.world.now c.args.bases.now)

pub partitions-preserved : goal.partitions-preserved
partitions-preserved c =
    let low : c.partitions.partition < c.args.world.now.shape.k =
    omega (
      arith,
      c.partitions-test.true,
      c.k-partition-end.ensures.value,
      ap (λ (s : Dimensions). s.k) c.shape.ensures,
    ) in
    bases-next c.args.world.now c.args.bases.now c.partitions.next.items c.partitions.partition c.partitions.invariant
    c.push.new.self.items c.in_ok-base.base low c.in_ok-push.ensures.items c.in_ok-base.ensures

pub returns : goal.returns
returns c =
    let high : c.args.world.now.shape.k ≤ c.partitions.partition =
    omega (
      arith,
      c.partitions-test.false,
      c.k-partition-end.ensures.value,
      ap (λ (s : Dimensions). s.k) c.shape.ensures,
    ) in
    bases-all c.args.world.now c.args.bases.now c.partitions.next.items c.partitions.partition c.partitions.invariant high
