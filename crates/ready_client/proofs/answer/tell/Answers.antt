use Rattle.std.proofs.Common.{◌++◌, refl}
use Rattle.ready_client.proofs.Calling.{comes-so, due-some, tells, tells-broken}
use Rattle.ready_client.proofs.answer.tell.Goals as goal
use Rattle.front_end.specs.declared.due.Due.TheVariants as due
use Rattle.ready_client.proofs.Asking.{read-as, read-so, tells-one, tells-part}

pub returns-in-Ok-clause-comes : goal.returns-in-Ok-clause-comes
returns-in-Ok-clause-comes g c = λ overlap told input input_now first now before sent calls is come.
    let goes = tells g.G.Gateway.rules g.G.Gateway.order overlap told input input_now first before now sent _ _
    c.args.connection.now c.settle_text.new.self calls is c.in-Ok.ensures.told c.in-Ok.ensures.kept
    c.in-Ok.ensures.quits c.in-Ok.ensures.count come in
    comes-so g.G.Gateway.rules g.G.Gateway.order overlap told input input_now first before now _ _
    c.settle_text.new.self calls 0 calls _ goes refl come.opened come.distinct
    (c.go_on.ensures.comes overlap told input input_now first goes.ends before sent goes.under)

pub returns-in-Err-clause-comes : goal.returns-in-Err-clause-comes
returns-in-Err-clause-comes g c = λ overlap told input input_now first now before sent calls is come.
    tells-broken g.G.Gateway.rules g.G.Gateway.order overlap told input input_now first before now sent _ _
    c.args.connection.now c.settle_text.new.self calls 0 _ _ _ is
    c.in-Err.ensures.part c.in-Err.ensures.cause come

pub returns-in-Ok-clause-asks : goal.returns-in-Ok-clause-asks
returns-in-Ok-clause-asks g c = λ overlap told input_now now sent calls is input first before come.
    tells-one g.G.Gateway.rules told sent now c.args.connection.now c.settle_text.new.self calls _ c.args.outbox.now
    c.settle_text.new.sink c.go_on.new.outbox c.requires.short is c.in-Ok.ensures.told
    (c.go_on.ensures.closes (read-as _ _ _ _ c.in-Ok.ensures.kept c.in-Ok.ensures.quits
    (read-so g.G.Gateway.rules g.G.Gateway.order overlap told input input_now first now before
    (sent ++ c.args.outbox.now) c.args.connection.now calls (due-some told c.args.connection.now.waiting due.Text is)
    come)))

pub returns-in-Err-clause-asks : goal.returns-in-Err-clause-asks
returns-in-Err-clause-asks g c = λ overlap told input_now now sent calls is input first before come.
    tells-part g.G.Gateway.rules told sent now c.args.connection.now c.settle_text.new.self calls _ c.args.outbox.now
    c.settle_text.new.sink c.requires.short is c.in-Err.ensures.stays c.in-Err.ensures.part
