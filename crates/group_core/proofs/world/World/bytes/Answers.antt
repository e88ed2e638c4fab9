use Rattle.std.proofs.Common.{◌≡◌, IfOk, ap, subst, ◌∙◌}
use Rattle.erasure_code.specs.Spaces.{bytes_at}
use Rattle.group_run.specs.Process.{Node}
use Rattle.group_run.specs.World.{World, process_node}
use Rattle.group_core.specs.Runs.{HasRun}
use Rattle.group_core.proofs.Known.{agree-on-stamp}
use Rattle.group_core.proofs.world.World.bytes.Goals as goal

pub returns-clause-bytes : goal.returns-clause-bytes
returns-clause-bytes c =
    let node = c.node.ensures.node ∙ ap (λ (v : World). process_node v c.args.at) c.self.view_is in
    subst (λ (n : Node). IfOk c.bytes.result (λ bytes. bytes ≡ bytes_at c.args.run.at c.args.run.len n.process.space)) node c.bytes.ensures

pub returns-clause-values : goal.returns-clause-values
returns-clause-values c = agree-on-stamp c.args.self.now (subst HasRun c.self.view_is c.self.invariant.run)
