use Rattle.std.proofs.Common.{◌≡◌, ◌+◌, ◌<◌, [], sym, ap, ◌∙◌, arith}
use Rattle.std.specs.List.{range_with_len}
use Rattle.group_types.specs.Dimensions.{Dimensions}
use Rattle.group_types.specs.Lists.{at}
use Rattle.group_types.specs.Names.{process_at}
use Rattle.group_run.specs.Draining.{node_at}
use Rattle.group_run.specs.Process.{Node}
use Rattle.group_run.specs.World.{World, process_node}
use Rattle.group_core.proofs.Waiting.{idle-target, target-behind, target-here}
use Rattle.group_core.proofs.world.World.next_target.Goals as goal

pub returns-then-is_idle-clause-target : goal.returns-then-is_idle-clause-target
returns-then-is_idle-clause-target c =
    let w = c.args.self.now in
    let here : c.node.result.now.node ≡ node_at w c.args.from
    = c.node.ensures.node ∙ ap (λ (v : World). process_node v c.process_at.result) c.self.view_is
    ∙ ap (process_node w) (c.process_at.ensures.name ∙ ap (λ (s : Dimensions). process_at s c.args.from) c.shape-shape.ensures) in
    idle-target w c.args.from (λ y. ap (λ (n : Node). at [] n.links y) (sym here)
    ∙ c.is_idle.ensures.0 c.if-is_idle.true y) (range_with_len 0 (w.shape.k + w.shape.m))

pub returns-then-is_waiting-clause-target : goal.returns-then-is_waiting-clause-target
returns-then-is_waiting-clause-target c =
    let k-is = c.k.ensures.value ∙ ap (λ (s : Dimensions). s.k) c.shape-shape.ensures in
    let m-is = c.m.ensures.value ∙ ap (λ (s : Dimensions). s.m) c.shape-shape.ensures in
    let below : c.targets.to < c.args.self.now.shape.k + c.args.self.now.shape.m = omega (arith, c.targets-test.true, k-is, m-is) in
    sym (target-here c.args.self.now c.args.from c.targets.to (c.args.self.now.shape.k + c.args.self.now.shape.m) below
    (sym c.is_waiting.ensures ∙ c.if-is_waiting.true))
    ∙ c.targets.invariant.left

pub targets-preserved : goal.targets-preserved
targets-preserved c =
    let k-is = c.k.ensures.value ∙ ap (λ (s : Dimensions). s.k) c.shape-shape.ensures in
    let m-is = c.m.ensures.value ∙ ap (λ (s : Dimensions). s.m) c.shape-shape.ensures in
    let below : c.targets.to < c.args.self.now.shape.k + c.args.self.now.shape.m = omega (arith, c.targets-test.true, k-is, m-is) in
    record {
      left = sym (target-behind c.args.self.now c.args.from c.targets.to
          (c.args.self.now.shape.k + c.args.self.now.shape.m) below (sym c.is_waiting.ensures ∙ c.if-is_waiting.false))
          ∙ c.targets.invariant.left;
    }
