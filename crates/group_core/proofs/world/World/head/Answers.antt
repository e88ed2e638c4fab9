use Rattle.std.proofs.Common.{suc, refl, ap, ◌<◌, arith}
use Rattle.group_types.specs.Dimensions.{Dimensions}
use Rattle.group_core.proofs.Heads.{parity_heads, some_lives}
use Rattle.group_core.proofs.world.World.head.Goals as goal

pub returns-then-not-is_dead-2-clause-heads : goal.returns-then-not-is_dead-2-clause-heads
returns-then-not-is_dead-2-clause-heads c =
    let low : c.ranks.i < c.args.self.now.shape.m = omega (arith, c.ranks-test.true, c.m-i-end.ensures.value, ap (λ (s : Dimensions). s.m) c.shape.ensures) in (
      suc c.ranks.i,
      parity_heads c.args.self.now c.args.partition.0 c.ranks.i low
          (cc (c.is_dead.ensures, c.if-not-is_dead.false)) c.ranks.invariant
          (cc (c.is_dead-in-ranks.ensures, c.if-not-is_dead-2.true)),
      refl,
    )

pub unreachable-requires : goal.unreachable-requires
unreachable-requires c =
    some_lives c.args.self.now c.args.partition.0 c.run.ensures c.requires.drained c.requires.up c.requires.partition
    (cc (c.is_dead.ensures, c.if-not-is_dead.false))
    (λ i low. c.ranks.invariant i (omega (arith, low, c.ranks-test.false, c.m-i-end.ensures.value, ap (λ (s : Dimensions). s.m) c.shape.ensures)))
