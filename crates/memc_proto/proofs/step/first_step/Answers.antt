use Rattle.std.proofs.Common.{refl, subst}
use Rattle.memc_proto.specs.Reader.{StandsFor}
use Rattle.memc_proto.specs.declared.mode.Mode.{Mode}
use Rattle.memc_proto.proofs.Steps.{too_long-more}
use Rattle.memc_proto.proofs.step.first_step.Goals as goal

pub returns-in-TooLong-clause-step : goal.returns-in-TooLong-clause-step
returns-in-TooLong-clause-step c =
    λ rest stands. (
      too_long-more rest c.args.piece.now (subst (λ (m : Mode). StandsFor m c.args.front.now rest) c.in-TooLong.is
          stands),
      refl,
    )
