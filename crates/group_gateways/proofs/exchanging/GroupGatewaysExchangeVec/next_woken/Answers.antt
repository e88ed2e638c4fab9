use Rattle.group_gateways.specs.Order.{group_order}
use Rattle.group_gateways.proofs.exchanging.GroupGatewaysExchangeVec.next_woken.Goals as goal

pub returns-in-Some-clause-later : goal.returns-in-Some-clause-later
returns-in-Some-clause-later g c =
    (group_order g.G.Gateway.rules g.G.Gateway.order).on c.args.self.now c.groups.self c.woken_in.new.self c.groups.invariant.later c.woken_in.ensures.later
