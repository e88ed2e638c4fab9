use Rattle.std.proofs.Common.{rules, ◌≡◌, ◌<◌, Option, Some, Err, length, set, refl, subst}
use Rattle.std.specs.List.{slice_get}
use Rattle.std.proofs.lemmas.Option.{slice_get_read}
use Rattle.front_end.specs.Gateway.{LendsOnly}
use Rattle.group_gateways.specs.Rules.{group_for}
use Rattle.group_gateways.proofs.Calls.{has-begun, is-kept, lends-only}
use Rattle.group_gateways.proofs.Changed.{get-set, get-set-other, has_changed, is-free, is-later, keeps-open, lends-between}
use Rattle.group_gateways.proofs.gateway.GroupGatewaysGateway.begin.Goals as goal

pub returns-in_err-inner-clause-others : goal.returns-in_err-inner-clause-others
returns-in_err-inner-clause-others g c =
    keeps-open g.G.Gateway.rules g.G.Gateway.order c.args.self.now _ c.group_of-group.result c.index_mut.result.now c.begin.new.self
    (has_changed c.args.self.now _ c.group_of-group.result c.index_mut.result.now c.begin.new.self (search rules) c.index_mut.ensures.value refl refl)
    c.begin.ensures.later c.begin.ensures.others

pub returns-in_err-inner-clause-later : goal.returns-in_err-inner-clause-later
returns-in_err-inner-clause-later g c =
    is-later g.G.Gateway.rules g.G.Gateway.order c.args.self.now _ c.group_of-group.result c.index_mut.result.now c.begin.new.self
    (has_changed c.args.self.now _ c.group_of-group.result c.index_mut.result.now c.begin.new.self (search rules) c.index_mut.ensures.value refl refl)
    c.begin.ensures.later

pub returns-in_err-inner-clause-lends_none : goal.returns-in_err-inner-clause-lends_none
returns-in_err-inner-clause-lends_none g c =
    let told : c.from_residual.result ≡ Err c.in_err-inner.field-0.0 = search rules in
    let items = c.args.self.now.gateways.items in
    let group = c.group_of-group.result in
    let within : group < length items = search rules in
    let was : slice_get items group ≡ Some c.index_mut.result.now = slice_get_read items (length items) group
    c.index_mut.result.now refl within c.index_mut.ensures.value in
    rw told (lends-between g.G.Gateway.rules g.G.Gateway.order (slice_get items)
    (slice_get (set items group c.begin.new.self)) group c.index_mut.result.now c.begin.new.self
    was (get-set items group c.begin.new.self within) (λ j. get-set-other items group j c.begin.new.self) c.in_err-inner.ensures.lends_none)

pub returns-in_err-inner-clause-want : goal.returns-in_err-inner-clause-want
returns-in_err-inner-clause-want g c =
    let told : c.from_residual.result ≡ Err c.in_err-inner.field-0.0 = search rules in
    let is : c.group_of-group.result ≡ group_for c.args.self.now c.args.op = search rules in
    rw told (is-kept g.G.Gateway.rules g.G.Gateway.order c.args.self.now _ c.group_of-group.result c.index_mut.result.now c.begin.new.self
    (has_changed c.args.self.now _ c.group_of-group.result c.index_mut.result.now c.begin.new.self (search rules) c.index_mut.ensures.value refl refl)
    c.args.op is c.in_err-inner.ensures.want)

pub returns-in-Some-clause-begun : goal.returns-in-Some-clause-begun
returns-in-Some-clause-begun g c =
    let is : c.group_of-group.result ≡ group_for c.args.self.now c.args.op = search rules in
    let opened : g.G.Gateway.rules.opened c.begin.new.self c.in-Some.inner c.args.op c.index_mut.result.now = search rules in
    has-begun g.G.Gateway.rules g.G.Gateway.order c.args.self.now _ c.group_of-group.result c.index_mut.result.now c.begin.new.self
    (has_changed c.args.self.now _ c.group_of-group.result c.index_mut.result.now c.begin.new.self (search rules) c.index_mut.ensures.value refl refl)
    c.begin.ensures.later c.args.op c.in-Some.inner is (search rules) opened

pub returns-in-Some-clause-fresh : goal.returns-in-Some-clause-fresh
returns-in-Some-clause-fresh g c =
    let items = c.args.self.now.gateways.items in
    is-free g.G.Gateway.rules c.args.self.now (record { group = c.group_of-group.result; inner = c.in-Some.inner }) c.index_mut.result.now
    (slice_get_read items (length items) c.group_of-group.result c.index_mut.result.now refl (search rules) c.index_mut.ensures.value)
    (search rules)

pub returns-in-Some-clause-others : goal.returns-in-Some-clause-others
returns-in-Some-clause-others g c =
    keeps-open g.G.Gateway.rules g.G.Gateway.order c.args.self.now _ c.group_of-group.result c.index_mut.result.now c.begin.new.self
    (has_changed c.args.self.now _ c.group_of-group.result c.index_mut.result.now c.begin.new.self (search rules) c.index_mut.ensures.value refl refl)
    c.begin.ensures.later c.begin.ensures.others

pub returns-in-Some-clause-lends : goal.returns-in-Some-clause-lends
returns-in-Some-clause-lends g c =
    let items = c.args.self.now.gateways.items in
    let group = c.group_of-group.result in
    let within : group < length items = search rules in
    let was : slice_get items group ≡ Some c.index_mut.result.now = slice_get_read items (length items) group
    c.index_mut.result.now refl within c.index_mut.ensures.value in
    lends-only g.G.Gateway.rules (slice_get items) (slice_get (set items group c.begin.new.self)) group c.index_mut.result.now c.begin.new.self
    was (get-set items group c.begin.new.self within) (λ j. get-set-other items group j c.begin.new.self) c.in-Some.inner
    (subst (λ (b : Option g.row.G-Call.Denot). LendsOnly g.G.Gateway.rules b c.index_mut.result.now c.begin.new.self) c.in-Some.is c.in_ok-inner.ensures.lends)

pub returns-in-Some-clause-later : goal.returns-in-Some-clause-later
returns-in-Some-clause-later g c =
    is-later g.G.Gateway.rules g.G.Gateway.order c.args.self.now _ c.group_of-group.result c.index_mut.result.now c.begin.new.self
    (has_changed c.args.self.now _ c.group_of-group.result c.index_mut.result.now c.begin.new.self (search rules) c.index_mut.ensures.value refl refl)
    c.begin.ensures.later

pub returns-in-None-clause-later : goal.returns-in-None-clause-later
returns-in-None-clause-later g c =
    is-later g.G.Gateway.rules g.G.Gateway.order c.args.self.now _ c.group_of-group.result c.index_mut.result.now c.begin.new.self
    (has_changed c.args.self.now _ c.group_of-group.result c.index_mut.result.now c.begin.new.self (search rules) c.index_mut.ensures.value refl refl)
    c.begin.ensures.later
