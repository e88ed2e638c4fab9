use Rattle.std.proofs.Common.{rules, ◌≡◌, ◌<◌, Some, length, set, refl, subst, sym}
use Rattle.std.specs.Prelude.{IfSome}
use Rattle.group_gateways.proofs.Changed.{get-set, get-set-other, has_changed, is-quiet}
use Rattle.group_gateways.proofs.gateway.GroupGateways.close_in.Goals as goal

pub returns-in-Some-clause-quiet : goal.returns-in-Some-clause-quiet
returns-in-Some-clause-quiet g c =
    is-quiet g.G.Gateway.rules g.G.Gateway.order c.args.self.now _ c.args.group c.in-Some.gateway.now c.set_closed.new.self
    (has_changed c.args.self.now _ c.args.group c.in-Some.gateway.now c.set_closed.new.self (search rules) c.in-Some.ensures.value refl refl)
    c.set_closed.ensures.open c.set_closed.ensures.lends c.set_closed.ensures.later

pub returns-in-Some-clause-closed : goal.returns-in-Some-clause-closed
returns-in-Some-clause-closed g c =
    let items = c.args.self.now.gateways.items in
    let within : c.args.group < length items = search rules in
    rw (get-set items c.args.group c.set_closed.new.self within) c.set_closed.ensures.closed

pub returns-in-Some-clause-others : goal.returns-in-Some-clause-others
returns-in-Some-clause-others g c = λ j other. get-set-other c.args.self.now.gateways.items c.args.group j c.set_closed.new.self other
