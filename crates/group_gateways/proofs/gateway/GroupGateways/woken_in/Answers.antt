use Rattle.std.proofs.Common.{rules, refl}
use Rattle.group_gateways.proofs.Changed.{has_changed, is-quiet}
use Rattle.group_gateways.proofs.gateway.GroupGateways.woken_in.Goals as goal

pub returns-in-Some : goal.returns-in-Some
returns-in-Some g c =
    is-quiet g.G.Gateway.rules g.G.Gateway.order c.args.self.now _ c.args.group c.in-Some.gateway.now c.next_woken.new.self
    (has_changed c.args.self.now _ c.args.group c.in-Some.gateway.now c.next_woken.new.self (search rules) c.in-Some.ensures.value refl refl)
    c.next_woken.ensures.open c.next_woken.ensures.lends c.next_woken.ensures.later
