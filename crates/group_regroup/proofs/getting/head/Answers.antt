use Rattle.std.proofs.Common.{◌≡◌, ◌<◌, ◌+◌, ◌-◌, ℕ, suc, ap, sym, subst, arith}
use Rattle.std.specs.List.{range_with_len}
use Rattle.group_types.specs.Dimensions.{Dimensions}
use Rattle.group_types.specs.Names.{of_rank}
use Rattle.group_eras.specs.Items.{first_living, head_of}
use Rattle.group_regroup.proofs.Tries.{ranks-first, ranks-here, ranks-next, ranks-none}
use Rattle.group_regroup.proofs.getting.head.Goals as goal

pub ranks-init : goal.ranks-init
ranks-init c = ranks-first c.args.world.now c.args.partition.0 (cc (c.is_dead.ensures, c.if-not-is_dead.false))

pub returns-then-not-is_dead-2-clause-head : goal.returns-then-not-is_dead-2-clause-head
returns-then-not-is_dead-2-clause-head c =
    let low : c.ranks.i < c.args.world.now.shape.m = omega (arith, c.ranks-test.true, c.m-i-end.ensures.value, ap (λ (s : Dimensions). s.m) c.shape.ensures) in
    sym (ranks-here c.args.world.now c.args.partition.0 c.ranks.i low c.ranks.invariant (cc (c.is_dead-in-ranks.ensures, c.if-not-is_dead-2.true)))

pub ranks-preserved : goal.ranks-preserved
ranks-preserved c =
    let low : c.ranks.i < c.args.world.now.shape.m = omega (arith, c.ranks-test.true, c.m-i-end.ensures.value, ap (λ (s : Dimensions). s.m) c.shape.ensures) in
    let next : suc c.ranks.i ≡ c.ranks.i + 1 = omega arith in
    subst (λ (j : ℕ). head_of c.args.world.now c.args.partition.0 ≡ of_rank c.args.partition.0
    (first_living c.args.world.now c.args.partition.0 (range_with_len (suc j) (c.args.world.now.shape.m - j)))) next
    (ranks-next c.args.world.now c.args.partition.0 c.ranks.i low c.ranks.invariant (cc (c.is_dead-in-ranks.ensures, c.if-not-is_dead-2.false)))

pub returns-clause-head : goal.returns-clause-head
returns-clause-head c =
    sym (ranks-none c.args.world.now c.args.partition.0 c.ranks.i
    (omega (arith, c.ranks-test.false, c.m-i-end.ensures.value, ap (λ (s : Dimensions). s.m) c.shape.ensures))
    c.ranks.invariant)
