use Rattle.std.proofs.Common.{ap, arith}
use Rattle.world_caller.proofs.Living.{parity-serves}
use Rattle.world_caller.proofs.serving.server.Goals as goal

pub returns-then-not-is_dead-2-clause-serves : goal.returns-then-not-is_dead-2-clause-serves
returns-then-not-is_dead-2-clause-serves c =
    parity-serves c.args.world.now c.args.partition.0 c.ranks.i
    (omega (arith, c.ranks-test.true, c.m-i-end.ensures.value, (ap (λ s. s.m) c.shape.ensures)))
    (cc (c.is_dead.ensures, c.if-not-is_dead.false)) c.ranks.invariant
    (cc (c.is_dead-in-ranks.ensures, c.if-not-is_dead-2.true))
