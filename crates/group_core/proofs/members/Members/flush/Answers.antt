use Rattle.group_run.specs.World.{flush_node}
use Rattle.group_core.proofs.Changed.{changed, weaker}
use Rattle.group_core.proofs.members.Members.flush.Goals as goal

pub returns-clause-step : goal.returns-clause-step
returns-clause-step c =
    weaker c.flush.result (λ out is. changed c.args.self.now c.self.inside.shape c.self.inside.nodes.items
    c.self.view_is c.self.invariant c.args.at c.requires.process
    c.index_of-at.result c.index_of-at.ensures c.index_mut.result.now c.index_mut.ensures.value flush_node c.flush.new.self out is) c.flush.ensures.step
