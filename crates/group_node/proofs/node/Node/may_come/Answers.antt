use Rattle.std.proofs.Common.{◌↔◌, IsTrue, subst}
use Rattle.group_types.specs.Dimensions.{Dimensions}
use Rattle.group_node.specs.Delivering.{Comes}
use Rattle.group_node.specs.Standing.{NodeStanding}
use Rattle.group_node.proofs.node.Node.may_come.Goals as goal

pub returns : goal.returns
returns c =
    subst (λ (v : NodeStanding). IsTrue c.may_come.result ↔ Comes v.shape c.args.from c.args.message.now v.node.process) c.self.view_is
    (subst (λ (s : Dimensions). IsTrue c.may_come.result ↔ Comes s c.args.from c.args.message.now c.self.inside.process.process)
    c.self.invariant.shape c.may_come.ensures)
