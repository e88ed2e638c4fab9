use Rattle.std.proofs.Common.{rules, ◌≡◌, ◌<◌, Some, length, set, refl, subst}
use Rattle.std.specs.List.{slice_get}
use Rattle.std.proofs.lemmas.Option.{IfSome_then, slice_get_read}
use Rattle.group_gateways.specs.Rules.{HoldsOf}
use Rattle.group_gateways.proofs.Calls.{has-ended, keeps-others}
use Rattle.group_gateways.proofs.Changed.{get-set, get-set-other, has_changed, is-free, is-later, lends-between}
use Rattle.group_gateways.proofs.gateway.GroupGatewaysGateway.take_end.Goals as goal

pub returns-in-Some-clause-ended : goal.returns-in-Some-clause-ended
returns-in-Some-clause-ended g c =
    IfSome_then c.take_end.result c.take_end.ensures.ended
    (λ end ended. has-ended g.G.Gateway.rules g.G.Gateway.order c.args.self.now _ c.args.call.now.group
    c.in-Some.gateway.now c.take_end.new.self
    (has_changed c.args.self.now _ c.args.call.now.group c.in-Some.gateway.now c.take_end.new.self (search rules) c.in-Some.ensures.value refl refl)
    c.take_end.ensures.later c.args.call.now end refl ended)

pub returns-in-Some-clause-over : goal.returns-in-Some-clause-over
returns-in-Some-clause-over g c =
    let items = c.args.self.now.gateways.items in
    let group = c.args.call.now.group in
    let within : group < length items = search rules in
    λ some. is-free g.G.Gateway.rules _ c.args.call.now c.take_end.new.self (get-set items group c.take_end.new.self within) (c.take_end.ensures.over some)

pub returns-in-Some-clause-free : goal.returns-in-Some-clause-free
returns-in-Some-clause-free g c =
    let items = c.args.self.now.gateways.items in
    let group = c.args.call.now.group in
    let within : group < length items = search rules in
    λ some lent. c.take_end.ensures.free some
    (subst (HoldsOf (λ (one : g.row.G.Denot). g.G.Gateway.rules.lent one c.args.call.now.inner))
    (get-set items group c.take_end.new.self within) lent)

pub returns-in-Some-clause-others : goal.returns-in-Some-clause-others
returns-in-Some-clause-others g c =
    keeps-others g.G.Gateway.rules g.G.Gateway.order c.args.self.now _ c.args.call.now.group c.in-Some.gateway.now c.take_end.new.self
    (has_changed c.args.self.now _ c.args.call.now.group c.in-Some.gateway.now c.take_end.new.self (search rules) c.in-Some.ensures.value refl refl)
    c.take_end.ensures.later c.args.call.now refl c.take_end.ensures.others

pub returns-in-Some-clause-lends : goal.returns-in-Some-clause-lends
returns-in-Some-clause-lends g c =
    let items = c.args.self.now.gateways.items in
    let group = c.args.call.now.group in
    let within : group < length items = search rules in
    let was : slice_get items group ≡ Some c.in-Some.gateway.now = slice_get_read items (length items) group
    c.in-Some.gateway.now refl within c.in-Some.ensures.value in
    lends-between g.G.Gateway.rules g.G.Gateway.order (slice_get items)
    (slice_get (set items group c.take_end.new.self)) group c.in-Some.gateway.now c.take_end.new.self
    was (get-set items group c.take_end.new.self within) (λ j. get-set-other items group j c.take_end.new.self) c.take_end.ensures.lends

pub returns-in-Some-clause-later : goal.returns-in-Some-clause-later
returns-in-Some-clause-later g c =
    is-later g.G.Gateway.rules g.G.Gateway.order c.args.self.now _ c.args.call.now.group c.in-Some.gateway.now c.take_end.new.self
    (has_changed c.args.self.now _ c.args.call.now.group c.in-Some.gateway.now c.take_end.new.self (search rules) c.in-Some.ensures.value refl refl)
    c.take_end.ensures.later
