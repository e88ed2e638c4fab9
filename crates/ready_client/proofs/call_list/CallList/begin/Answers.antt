use Rattle.std.proofs.Common.{◌++◌, ◌∷◌, [], List, Option, subst, ap, ◌∙◌}
use Rattle.ready_client.specs.Calling.{IsBegunAs, LendsBegun}
use Rattle.ready_client.specs.declared.open_call.OpenCall.{OpenCall}
use Rattle.ready_client.proofs.Calling.{some-of}
use Rattle.ready_client.proofs.Listing.{appended, apart-as, begun-apart, begun-lends, lends-as}
use Rattle.ready_client.proofs.call_list.CallList.begin.Goals as goal

pub returns-clause-apart : goal.returns-clause-apart
returns-clause-apart g c = apart-as g.G.Gateway.rules c.args.self.now _ _ c.args.gateway.now c.begin_at.new.gateway
    (appended c.self.inside.first c.self.inside.others.items c.push_back.new.self.items c.args.self.now c.in-Some.call
    c.self.view_is (c.in-Ok.ensures.items ∙ ap (λ (xs : List _). xs ++ c.in-Some.call ∷ [])
    c.in_ok-reserve.ensures.items))
    (begun-apart g.G.Gateway.rules c.args.gateway.now c.begin_at.new.gateway c.args.op c.args.self.now c.in-Some.call
    (some-of (λ call. IsBegunAs g.G.Gateway.rules c.args.gateway.now c.args.op call c.begin_at.new.gateway)
    c.in_ok-call.field-0 c.in-Some.call c.in-Some.is c.in_ok-call.ensures.begun) c.begin_at.ensures.open)

pub returns-clause-lends : goal.returns-clause-lends
returns-clause-lends g c = lends-as g.G.Gateway.rules c.args.self.now _ _ c.args.gateway.now c.begin_at.new.gateway
    (appended c.self.inside.first c.self.inside.others.items c.push_back.new.self.items c.args.self.now c.in-Some.call
    c.self.view_is (c.in-Ok.ensures.items ∙ ap (λ (xs : List _). xs ++ c.in-Some.call ∷ [])
    c.in_ok-reserve.ensures.items))
    (begun-lends g.G.Gateway.rules c.args.gateway.now c.begin_at.new.gateway c.args.self.now c.in-Some.call
    (subst (λ (begun : Option (OpenCall _)). LendsBegun g.G.Gateway.rules begun c.args.gateway.now
    c.begin_at.new.gateway) c.in-Some.is c.in_ok-call.ensures.lends))
