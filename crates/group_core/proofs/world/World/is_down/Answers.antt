use Rattle.std.proofs.Common.{ap, subst, ◌∙◌}
use Rattle.group_types.specs.declared.process.ProcessId.TheVariants.{DataNode}
use Rattle.group_run.specs.Process.{Node}
use Rattle.group_run.specs.World.{World, process_node}
use Rattle.group_core.specs.Runs.{HasRun}
use Rattle.group_core.proofs.Known.{told-down}
use Rattle.group_core.proofs.world.World.is_down.Goals as goal

pub returns : goal.returns
returns c =
    told-down c.args.self.now (subst HasRun c.self.view_is c.self.invariant.run) c.is_down.result
    (c.is_down.ensures ∙ ap (λ (n : Node). n.down) c.node-first.ensures.node ∙ ap (λ (w : World). (process_node w (DataNode 0)).down) c.self.view_is)
