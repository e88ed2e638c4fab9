use Rattle.group_core.proofs.Changed.{own-node}
use Rattle.group_core.proofs.members.Members.node.Goals as goal

pub returns-clause-node : goal.returns-clause-node
returns-clause-node c =
    own-node c.args.self.now c.self.inside.shape c.self.inside.nodes.items c.self.view_is c.self.invariant c.args.at
    c.requires c.index_of-at.result c.index_of-at.ensures c.index.result.now c.index.ensures
