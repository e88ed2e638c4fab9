use Rattle.std.proofs.Common.{subst, sym}
use Rattle.run_verify.specs.Shadows.{AllFollow}
use Rattle.run_verify.proofs.Shadowing.{follow_pushed}
use Rattle.run_verify.proofs.spaces.grow.Goals as goal

pub shadows-preserved : goal.shadows-preserved
shadows-preserved c = record {
  follow = λ changes all. subst (AllFollow changes) (sym c.in_ok-push.ensures.items)
      (follow_pushed changes c.shadows.shadows.items c.new.result c.new.ensures
      (c.shadows.invariant.follow changes all));
}

pub returns-in_err-push-clause-follow : goal.returns-in_err-push-clause-follow
returns-in_err-push-clause-follow c changes all = subst (AllFollow changes) (sym c.in_err-push.ensures.items) (c.shadows.invariant.follow changes all)
