use Rattle.std.proofs.Common.{◌≡◌, ◌<◌, sym, ap, ◌∙◌, arith}
use Rattle.std.proofs.lemmas.Grind.{common_steps}
use Rattle.head_service.specs.Serving.{Serving, serving}
use Rattle.process_service.proofs.Oldest.{oldest-behind, oldest-here}
use Rattle.process_service.proofs.service.Service.oldest_inherited.Goals as goal

pub returns-then-is_some : goal.returns-then-is_some
returns-then-is_some c b =
    let k : c.self.inside.shape.k ≡ c.args.self.now.shape.k = ap (λ (v : Serving). v.shape.k) c.self.view_is in
    let below : c.partitions.d < c.args.self.now.shape.k = grind (arith, common_steps) in
    c.partitions.invariant.ahead b
    ∙ oldest-here (serving c.args.self.now b) c.args.self.now.shape.k c.partitions.d below c.inherited_at-found.result
    (sym c.is_some.ensures ∙ c.if-is_some.true)
    (c.inherited_at-found.ensures b)

pub partitions-preserved : goal.partitions-preserved
partitions-preserved c =
    let k : c.self.inside.shape.k ≡ c.args.self.now.shape.k = ap (λ (v : Serving). v.shape.k) c.self.view_is in
    let below : c.partitions.d < c.args.self.now.shape.k = grind (arith, common_steps) in
    record {
      ahead = λ b. c.partitions.invariant.ahead b
          ∙ oldest-behind (serving c.args.self.now b) c.args.self.now.shape.k c.partitions.d below c.inherited_at-found.result
          (sym c.is_some.ensures ∙ c.if-is_some.false) (c.inherited_at-found.ensures b);
    }
