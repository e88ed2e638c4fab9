use Rattle.std.proofs.Common.{suc, ◌<◌, ◌≡◌, ◌∙◌, refl, sym, ap, arith}
use Rattle.membership.specs.Members.{Membership}
use Rattle.membership.proofs.members.Members.head_of.Goals as goal

pub returns-then-not-is_dead-2-clause-some : goal.returns-then-not-is_dead-2-clause-some
returns-then-not-is_dead-2-clause-some c =
    let shape : c.self.inside.shape.m ≡ c.args.self.now.shape.m = ap (λ (m : Membership). m.shape.m) c.self.view_is in
    let below : c.ranks.i < c.args.self.now.shape.m = omega (arith, shape, c.m-i-end.ensures.value) in (
      suc c.ranks.i,
      refl,
      record {
        within = below;
        lives = sym c.is_dead-in-ranks.ensures ∙ c.if-not-is_dead-2.true;
        lowest = λ q low. c.ranks.invariant q (omega arith);
      },
    )
