use Rattle.std.proofs.Common.{◌++◌, refl}
use Rattle.ready_client.proofs.Calling.{comes-so, due-some, orders, orders-broken, wants-order}
use Rattle.ready_client.proofs.Listing.{kept-all, still-open}
use Rattle.ready_client.proofs.answer.order.Goals as goal
use Rattle.front_end.specs.declared.due.Due.TheVariants as due
use Rattle.ready_client.proofs.Asking.{order-none, orders-one, orders-part, read-as, read-so, soon, wants-fail}

pub returns-in-Err-clause-comes : goal.returns-in-Err-clause-comes
returns-in-Err-clause-comes g c = λ overlap told input input_now first before sent calls is come.
    wants-order g.G.Gateway.rules g.G.Gateway.order overlap told input input_now first before c.args.gateway.now
    c.fail.new.self _ c.args.connection.now calls 0 c.args.at c.args.keep
    is c.in-Err.ensures.want (still-open g.G.Gateway.rules c.args.gateway.now c.fail.new.self calls
    (kept-all g.G.Gateway.rules c.args.gateway.now c.fail.new.self calls c.fail.ensures.others) come.opened)
    come.distinct come

pub returns-in-Ok-settle_fail-clause-comes : goal.returns-in-Ok-settle_fail-clause-comes
returns-in-Ok-settle_fail-clause-comes g c = λ overlap told input input_now first before sent calls is come.
    let goes = orders g.G.Gateway.rules g.G.Gateway.order overlap told input input_now first before c.args.gateway.now
    c.fail.new.self sent _ _ c.args.connection.now c.settle_fail.new.self calls c.args.at c.args.keep c.in-Ok.end is
    c.in-Ok.ensures.failed
    c.in-Ok-settle_fail.ensures.told c.in-Ok-settle_fail.ensures.kept c.in-Ok-settle_fail.ensures.quits c.in-Ok-settle_fail.ensures.count come in
    comes-so g.G.Gateway.rules g.G.Gateway.order overlap told input input_now first before c.fail.new.self _ _ c.settle_fail.new.self calls 0 calls _ goes refl
    (still-open g.G.Gateway.rules c.args.gateway.now c.fail.new.self calls
    (kept-all g.G.Gateway.rules c.args.gateway.now c.fail.new.self calls c.fail.ensures.others) come.opened)
    come.distinct
    (c.go_on.ensures.comes overlap told input input_now first goes.ends before sent goes.under)

pub returns-in-Err-settle_fail-clause-comes : goal.returns-in-Err-settle_fail-clause-comes
returns-in-Err-settle_fail-clause-comes g c = λ overlap told input input_now first before sent calls is come.
    orders-broken g.G.Gateway.rules g.G.Gateway.order overlap told input input_now first before c.args.gateway.now
    c.fail.new.self sent _ _ c.args.connection.now c.settle_fail.new.self calls 0
    c.args.at c.args.keep c.in-Ok.end _ _ _ is c.in-Ok.ensures.failed
    (still-open g.G.Gateway.rules c.args.gateway.now c.fail.new.self calls
    (kept-all g.G.Gateway.rules c.args.gateway.now c.fail.new.self calls c.fail.ensures.others) come.opened)
    come.distinct
    c.in-Err-settle_fail.ensures.part c.in-Err-settle_fail.ensures.cause come

pub returns-in-Err-clause-asks : goal.returns-in-Err-clause-asks
returns-in-Err-clause-asks g c = λ overlap told input_now sent calls is input first before come.
    wants-fail g.G.Gateway.rules told sent c.args.gateway.now c.fail.new.self c.args.connection.now calls
    (sent ++ c.args.outbox.now) c.args.at c.args.keep (soon sent c.args.outbox.now c.requires.short) is
    (order-none g.G.Gateway.rules g.G.Gateway.order overlap told input input_now first c.args.gateway.now before
    (sent ++ c.args.outbox.now) c.args.connection.now calls c.args.at c.args.keep is come) c.in-Err.ensures.want

pub returns-in-Ok-settle_fail-clause-asks : goal.returns-in-Ok-settle_fail-clause-asks
returns-in-Ok-settle_fail-clause-asks g c = λ overlap told input_now sent calls is input first before come.
    orders-one g.G.Gateway.rules told sent c.args.gateway.now c.fail.new.self c.args.connection.now c.settle_fail.new.self
    calls _ c.args.outbox.now c.settle_fail.new.sink c.go_on.new.outbox
    c.args.at c.args.keep c.in-Ok.end c.requires.short is (order-none g.G.Gateway.rules g.G.Gateway.order overlap told input input_now
    first c.args.gateway.now before (sent ++ c.args.outbox.now) c.args.connection.now calls c.args.at c.args.keep is
    come) c.in-Ok.ensures.failed c.in-Ok-settle_fail.ensures.told
    (c.go_on.ensures.closes (read-as _ _ _ _ c.in-Ok-settle_fail.ensures.kept c.in-Ok-settle_fail.ensures.quits
    (read-so g.G.Gateway.rules g.G.Gateway.order overlap told input input_now first c.args.gateway.now before
    (sent ++ c.args.outbox.now) c.args.connection.now calls
    (due-some told c.args.connection.now.waiting (due.Fail c.args.at c.args.keep) is) come)))

pub returns-in-Err-settle_fail-clause-asks : goal.returns-in-Err-settle_fail-clause-asks
returns-in-Err-settle_fail-clause-asks g c = λ overlap told input_now sent calls is input first before come.
    orders-part g.G.Gateway.rules told sent c.args.gateway.now c.fail.new.self c.args.connection.now c.settle_fail.new.self
    calls _ c.args.outbox.now c.settle_fail.new.sink
    c.args.at c.args.keep c.in-Ok.end c.requires.short is (order-none g.G.Gateway.rules g.G.Gateway.order overlap told input input_now
    first c.args.gateway.now before (sent ++ c.args.outbox.now) c.args.connection.now calls c.args.at c.args.keep is
    come) c.in-Ok.ensures.failed
    c.in-Err-settle_fail.ensures.stays c.in-Err-settle_fail.ensures.part
