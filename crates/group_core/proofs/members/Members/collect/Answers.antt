use Rattle.std.proofs.Common.{◌∙◌}
use Rattle.group_run.specs.World.{collect_node}
use Rattle.group_core.proofs.Changed.{changed, only-is}
use Rattle.group_core.proofs.members.Members.collect.Goals as goal

pub returns-clause-step : goal.returns-clause-step
returns-clause-step c =
    changed c.args.self.now c.self.inside.shape c.self.inside.nodes.items c.self.view_is c.self.invariant c.args.at c.requires.process
    c.index_of-at.result c.index_of-at.ensures c.index_mut.result.now c.index_mut.ensures.value
    (λ s n. collect_node s c.args.caller c.args.call n) c.collect-answer.new.self c.only.result
    (c.collect-answer.ensures.step ∙ only-is c.collect-answer.new.self.node c.collect-answer.result c.only.result c.only.ensures.answer c.only.ensures.settled)
