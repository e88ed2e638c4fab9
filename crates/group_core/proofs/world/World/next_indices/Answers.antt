use Rattle.std.proofs.Common.{◌+◌, ◌<◌, sym, ap, ◌∙◌, arith}
use Rattle.group_types.specs.Dimensions.{Dimensions}
use Rattle.group_core.proofs.Waiting.{among-behind, among-here}
use Rattle.group_core.proofs.world.World.next_indices.Goals as goal

pub returns-in-Some-clause-delivery : goal.returns-in-Some-clause-delivery
returns-in-Some-clause-delivery c =
    let k-is = c.k.ensures.value ∙ ap (λ (s : Dimensions). s.k) c.shape-shape.ensures in
    let m-is = c.m.ensures.value ∙ ap (λ (s : Dimensions). s.m) c.shape-shape.ensures in
    let below : c.senders.from < c.args.self.now.shape.k + c.args.self.now.shape.m = omega (arith, c.senders-test.true, k-is, m-is) in
    sym (among-here c.args.self.now c.senders.from c.in-Some.to (c.args.self.now.shape.k + c.args.self.now.shape.m)
    below c.in-Some.ensures.target) ∙ c.senders.invariant.left

pub senders-preserved : goal.senders-preserved
senders-preserved c =
    let k-is = c.k.ensures.value ∙ ap (λ (s : Dimensions). s.k) c.shape-shape.ensures in
    let m-is = c.m.ensures.value ∙ ap (λ (s : Dimensions). s.m) c.shape-shape.ensures in
    let below : c.senders.from < c.args.self.now.shape.k + c.args.self.now.shape.m = omega (arith, c.senders-test.true, k-is, m-is) in
    record {
      left = sym (among-behind c.args.self.now c.senders.from (c.args.self.now.shape.k + c.args.self.now.shape.m) below
          c.in-None.ensures.target) ∙ c.senders.invariant.left;
    }
