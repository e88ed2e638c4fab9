use Rattle.std.proofs.Common.{ap, ◌∙◌, arith}
use Rattle.group_types.specs.Dimensions.{Dimensions}
use Rattle.group_run.specs.World.{World}
use Rattle.regroup_play.proofs.Bases.{all-low}
use Rattle.regroup_play.proofs.carrying.has_low_bases.Goals as goal

pub returns : goal.returns
returns c =
    let end = c.k-partition-end.ensures.value ∙ ap (λ (s : Dimensions). s.k) (c.shape.ensures ∙ ap (λ (w : World). w.shape) c.world.ensures) in
    let last = c.partitions-test.false in
    λ yes. all-low c.args.regroup.now 4611686018427387904 c.requires.led (λ d there. c.partitions.invariant.low d (omega (arith, end, last, there)))
