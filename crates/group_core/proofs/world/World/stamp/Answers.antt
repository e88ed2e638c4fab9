use Rattle.std.proofs.Common.{◌≡◌, ℕ, List, IfOk, ap, subst, ◌∙◌}
use Rattle.group_run.specs.World.{World, process_node}
use Rattle.group_core.specs.Runs.{HasRun}
use Rattle.group_core.proofs.Known.{stamp-read}
use Rattle.group_core.proofs.world.World.stamp.Goals as goal

pub returns : goal.returns
returns c =
    let w = c.args.self.now in
    let shape = c.node.ensures.shape ∙ ap (λ (v : World). v.shape) c.self.view_is in
    let node = c.node.ensures.node ∙ ap (λ (v : World). process_node v c.args.at) c.self.view_is in
    subst (λ (numbers : List ℕ). IfOk c.stamp.result (λ stamp. stamp.items ≡ numbers))
    (stamp-read w (subst HasRun c.self.view_is c.self.invariant.run) c.args.at c.requires c.node.result.now shape node) c.stamp.ensures
