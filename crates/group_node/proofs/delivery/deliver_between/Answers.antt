use Rattle.std.proofs.Common.{◌≡◌, false, subst}
use Rattle.group_node.specs.Standing.{NodeStanding}
use Rattle.group_node.proofs.Delivered.{delivery-comes, handed-out}
use Rattle.group_node.proofs.delivery.deliver_between.Goals as goal

pub receive-requires-clause-comes : goal.receive-requires-clause-comes
receive-requires-clause-comes c =
    delivery-comes c.args.sender.now c.args.receiver.now c.name-from.result c.name-to.result c.requires.same c.name-from.ensures.name c.name-to.ensures.name
    (subst (λ (v : NodeStanding). v.node.down ≡ false) c.receiver.view_is c.if-receiver.false)
    (subst (λ (v : NodeStanding). v.node.dead ≡ false) c.receiver.view_is c.if-receiver-2.false) c.requires.comes c.in-Some.message.now c.in-Some.ensures

pub returns-in_ok-out-in-Some-clause-step : goal.returns-in_ok-out-in-Some-clause-step
returns-in_ok-out-in-Some-clause-step c =
    handed-out c.args.sender.now c.args.receiver.now c.name-from.result c.name-to.result c.requires.same c.name-from.ensures.name c.name-to.ensures.name
    (subst (λ (v : NodeStanding). v.node.down ≡ false) c.receiver.view_is c.if-receiver.false)
    (subst (λ (v : NodeStanding). v.node.dead ≡ false) c.receiver.view_is c.if-receiver-2.false)
    c.in-Some.message.now c.receive.new.self.node c.hand_out.new.self.node c.in_ok-out-in-Some.out c.in-Some.ensures c.in_ok-out-in-Some.ensures.step
    c.hand_out.ensures.rest
