use Rattle.std.proofs.Common.{List, None, sym, subst}
use Rattle.front_end.specs.declared.overlap.Overlap.TheVariants.{OtherKeys}
use Rattle.ready_client.specs.declared.open_call.OpenCall.{OpenCall}
use Rattle.ready_client.specs.Coming.{ComesAtGateway}
use Rattle.ready_client.proofs.Calling.{called-behind, wants-first}
use Rattle.ready_client.proofs.Listing.{kept-all, still-open}
use Rattle.ready_client.proofs.ahead.begin_behind.Goals as goal
use Rattle.ready_client.specs.Asking.{connection_at}
use Rattle.ready_client.proofs.Asking.{asks-none, begins-one, wants-begin}

pub returns-in-Ok-true-clause-comes : goal.returns-in-Ok-true-clause-comes
returns-in-Ok-true-clause-comes g c = λ told input input_now first before held progress is some come. let begun = c.begin.ensures.begun (cc) in
    subst (λ (cs : List (OpenCall _)). ComesAtGateway g.G.Gateway.rules OtherKeys told input input_now first before
    c.begin.new.gateway held progress cs 0 None) (sym begun.2)
    (called-behind g.G.Gateway.rules g.G.Gateway.order told input input_now first before c.args.gateway.now
    c.begin.new.gateway held progress c.args.calls.now begun.0 c.args.op is begun.1 c.begin.ensures.open
    c.begin.ensures.onward come)

pub returns-in-Ok-false-clause-comes : goal.returns-in-Ok-false-clause-comes
returns-in-Ok-false-clause-comes g c = λ told input input_now first before held progress is some come. let same =
    c.begin.ensures.full (cc) in rw same.0 (rw same.1 come)

pub returns-in-Err-clause-comes : goal.returns-in-Err-clause-comes
returns-in-Err-clause-comes g c = λ told input input_now first before held progress is some come. rw c.in-Err.ensures.want
    (wants-first g.G.Gateway.rules g.G.Gateway.order OtherKeys told input input_now first before c.args.gateway.now
    c.begin.new.gateway held progress c.args.calls.now 0 some c.begin.ensures.onward
    (still-open g.G.Gateway.rules c.args.gateway.now c.begin.new.gateway c.args.calls.now
    (kept-all g.G.Gateway.rules c.args.gateway.now c.begin.new.gateway c.args.calls.now c.begin.ensures.open)
    come.opened) come.distinct come)

pub returns-in-Ok-true-clause-asks : goal.returns-in-Ok-true-clause-asks
returns-in-Ok-true-clause-asks g c = λ told progress sent held short is. let begun = c.begin.ensures.begun (cc) in
    begins-one g.G.Gateway.rules told sent c.args.gateway.now c.begin.new.gateway progress c.args.calls.now c.begin.new.self
    held c.args.op begun.0 short is begun.1 begun.2

pub returns-in-Ok-false-clause-asks : goal.returns-in-Ok-false-clause-asks
returns-in-Ok-false-clause-asks g c = λ told progress sent held short is. let same = c.begin.ensures.full (cc) in
    rw same.0 (rw same.1
    (asks-none g.G.Gateway.rules told sent (connection_at c.args.gateway.now progress c.args.calls.now 0 None held)))

pub returns-in-Err-clause-asks : goal.returns-in-Err-clause-asks
returns-in-Err-clause-asks g c = λ told progress sent held short is. wants-begin g.G.Gateway.rules told sent c.args.gateway.now
    c.begin.new.gateway progress c.args.calls.now c.begin.new.self held c.args.op short is c.in-Err.ensures.unasked
    c.in-Err.ensures.want
