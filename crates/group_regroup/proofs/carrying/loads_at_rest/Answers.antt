use Rattle.std.proofs.Common.{◌<◌, ◌≤◌, ℕ, List, sym, subst, ap, arith}
use Rattle.group_types.specs.Dimensions.{Dimensions, space_of}
use Rattle.group_types.specs.declared.process.Partition.{Partition}
use Rattle.group_eras.specs.Items.{bytes_in_partition}
use Rattle.group_regroup.specs.Items.{IsLongFault}
use Rattle.group_regroup.specs.declared.items.Item.{Item}
use Rattle.group_regroup.proofs.Loads.{Loaded, Loaded-all, Loaded-fit, Loaded-next, Loaded-none, long-is}
use Rattle.group_regroup.proofs.carrying.loads_at_rest.Goals as goal

pub partitions-init : goal.partitions-init
partitions-init c = subst (λ (xs : List Item). Loaded c.args.world.now (space_of c.args.shape) xs 0)
    (sym c.new-items.ensures.items) (Loaded-none c.args.world.now (space_of c.args.shape))

pub returns-clause-can : goal.returns-clause-can
returns-clause-can c =
    let high : c.args.world.now.shape.k ≤ c.partitions.d =
    omega (arith, c.partitions-test.false, c.k-d-end.ensures.value, ap (λ (s : Dimensions). s.k) c.shape.ensures) in
    record {
      rest = record { up = c.requires.up; drained = c.requires.drained };
      space = Loaded-fit c.args.world.now (space_of c.args.shape) c.partitions.items.items c.partitions.d
          c.partitions.invariant high;
    }

pub returns-clause-items : goal.returns-clause-items
returns-clause-items c =
    let high : c.args.world.now.shape.k ≤ c.partitions.d =
    omega (arith, c.partitions-test.false, c.k-d-end.ensures.value, ap (λ (s : Dimensions). s.k) c.shape.ensures) in
    Loaded-all c.args.world.now (space_of c.args.shape) c.partitions.items.items c.partitions.d c.partitions.invariant high

pub returns-clause-within : goal.returns-clause-within
returns-clause-within c = c.partitions.invariant.within

pub partitions-preserved : goal.partitions-preserved
partitions-preserved c =
    let low : c.partitions.d < c.args.world.now.shape.k =
    omega (arith, c.partitions-test.true, c.k-d-end.ensures.value, ap (λ (s : Dimensions). s.k) c.shape.ensures) in
    Loaded-next c.args.world.now (space_of c.args.shape) c.partitions.items.items c.partitions.d c.partitions.invariant
    c.load_from.new.items.items low c.in_default.ensures.items c.in_default.ensures.within
    (subst (λ (n : ℕ). bytes_in_partition c.args.world.now c.partitions.d ≤ n) c.space.ensures.value c.in_default.ensures.space)

pub returns-in-Err-clause-fault : goal.returns-in-Err-clause-fault
returns-in-Err-clause-fault c =
    let low : c.partitions.d < c.args.world.now.shape.k =
    omega (arith, c.partitions-test.true, c.k-d-end.ensures.value, ap (λ (s : Dimensions). s.k) c.shape.ensures) in
    let p : Partition = record { 0 = c.partitions.d } in
    long-is c.args.world.now c.args.shape p (record { up = c.requires.up; drained = c.requires.drained }) low c.partitions.invariant.fit c.in-Err.fault
    (subst (λ (n : ℕ). IsLongFault p (bytes_in_partition c.args.world.now c.partitions.d) n c.in-Err.fault) c.space.ensures.value c.in-Err.ensures.fault)
