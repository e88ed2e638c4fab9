use Rattle.std.proofs.Common.{◌≡◌, ap, subst, ◌∙◌}
use Rattle.group_run.specs.World.{collect_node, unchanged}
use Rattle.group_node.specs.Standing.{NodeStanding, node_standing}
use Rattle.group_node.proofs.Links.{messages-long}
use Rattle.group_node.proofs.Treated.{collected}
use Rattle.group_node.proofs.node.Node.collect.Goals as goal

pub returns-clause-step : goal.returns-clause-step
returns-clause-step c =
    let n = c.self.inside in
    let up = ap (λ (v : NodeStanding). v.node.down) c.self.view_is ∙ c.in_default.ensures.none.0 in
    let lives = ap (λ (v : NodeStanding). v.node.dead) c.self.view_is ∙ c.in_default.ensures.none.1 in
    subst (λ (v : NodeStanding). collect_node v.shape c.args.caller c.args.call v.node ≡ unchanged c.collect.result
    (node_standing n.shape c.collect.new.self n.links n.dead n.down).node) c.self.view_is
    (collected n.shape n.process.shape c.args.caller c.args.call
    (node_standing n.shape n.process n.links n.dead n.down).node c.collect.result c.collect.new.self.process
    up lives (messages-long n.links ∙ c.self.invariant.many) c.self.invariant.shape c.collect.ensures.answer)
