use Rattle.std.proofs.Common.{ℕ, length, ap, ◌∙◌}
use Rattle.group_calls.specs.declared.event.Event.TheVariants.{Ask}
use Rattle.group_run.specs.Process.{Node}
use Rattle.group_run.specs.World.{World, group_step, process_node}
use Rattle.law_answers.specs.Steps.{waiting}
use Rattle.group_core.proofs.Settles.{ask-settles, capped}
use Rattle.group_core.proofs.world.World.most_asked.Goals as goal

pub returns : goal.returns
returns c caller op less =
    let w = c.args.self.now in
    let n : ℕ = waiting c.node.result.now.node.process.replicas in
    let here = c.node.ensures.node ∙ ap (λ (v : World). process_node v c.args.at) c.self.view_is in
    capped n c.waiting.result (length (group_step w (Ask caller op c.args.at)).settled) c.waiting.ensures
    (ask-settles w caller n op c.args.at (ap (λ (x : Node). waiting x.process.replicas) here)) less
