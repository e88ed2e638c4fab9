use Rattle.std.proofs.Common.{◌∙◌}
use Rattle.group_run.specs.World.{trace_node}
use Rattle.group_core.proofs.Changed.{only-is, still}
use Rattle.group_core.proofs.members.Members.trace.Goals as goal

pub returns : goal.returns
returns c = record {
  step = still c.args.self.now c.self.inside.shape c.self.inside.nodes.items c.self.view_is c.self.invariant c.args.at
      c.requires.process c.node.result.now c.node.ensures.shape c.node.ensures.node
      (λ s n. trace_node s c.args.caller c.args.call c.args.partition.0 n) c.only.result
      (c.trace-answer.ensures ∙ only-is c.node.result.now.node c.trace-answer.result c.only.result c.only.ensures.answer c.only.ensures.settled);
}
