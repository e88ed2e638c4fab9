use Rattle.std.proofs.Common.{ℕ, ◌≤◌, ◌++◌, ◌∷◌, ap, drop, subst, sym, ◌∙◌}
use Rattle.ready_client.proofs.Calling.{comes-so, ends, ends-broken}
use Rattle.ready_client.proofs.Listing.{distinct-behind, open-behind, still-open}
use Rattle.ready_client.proofs.ending.settle.Goals as goal
use Rattle.ready_client.proofs.Asking.{call-some, read-as, read-so, takes-one, takes-part}

pub returns-in-Ok-clause-comes : goal.returns-in-Ok-clause-comes
returns-in-Ok-clause-comes g c = λ overlap told input input_now first earlier now before sent call has keeps later come. rw c.leave.ensures.list
    (let goes = ends g.G.Gateway.rules g.G.Gateway.order overlap told input input_now first before earlier now sent _ _
    c.args.connection.now c.settle.new.self call c.args.calls.now.list c.args.end c.requires.due has later keeps
    c.in-Ok.ensures.settled c.in-Ok.ensures.kept c.in-Ok.ensures.quits c.in-Ok.ensures.count come in
    comes-so g.G.Gateway.rules g.G.Gateway.order overlap told input input_now first before now _ _ c.settle.new.self
    c.args.calls.now.list c.leave.new.self.unwanted _ _ goes
    (ap (drop c.leave.new.self.unwanted) (sym c.leave.ensures.list) ∙ c.leave.ensures.unwanted ∙ ap (λ n. drop n c.args.calls.now.list) c.unneeded.ensures)
    (still-open g.G.Gateway.rules earlier now c.args.calls.now.list keeps (λ one there. come.opened one (open-behind call c.args.calls.now.list one there)))
    (distinct-behind call c.args.calls.now.list come.distinct)
    (c.go_on.ensures.comes overlap told input input_now first goes.ends before sent goes.under))

pub returns-in-Err-clause-comes : goal.returns-in-Err-clause-comes
returns-in-Err-clause-comes g c = λ overlap told input input_now first earlier now before sent call has keeps later come. rw c.leave.ensures.list
    (ends-broken g.G.Gateway.rules g.G.Gateway.order overlap told input input_now first before earlier now sent _ _
    c.args.connection.now c.settle.new.self call c.args.calls.now.list c.leave.new.self.unwanted c.args.end _ _ _
    c.requires.due has later
    (still-open g.G.Gateway.rules earlier now c.args.calls.now.list keeps (λ one there. come.opened one (open-behind call c.args.calls.now.list one there)))
    (distinct-behind call c.args.calls.now.list come.distinct) c.in-Err.ensures.part c.in-Err.ensures.cause come)

pub returns-in-Ok-clause-asks : goal.returns-in-Ok-clause-asks
returns-in-Ok-clause-asks g c = λ overlap told input_now earlier now sent call has input first before come.
    takes-one g.G.Gateway.rules told sent earlier now c.args.connection.now c.settle.new.self c.args.calls.now.list
    c.leave.new.self.list c.leave.new.self.unwanted _ c.args.outbox.now c.settle.new.sink c.go_on.new.outbox
    call c.args.end has c.leave.ensures.list (subst (λ (n : ℕ). c.leave.new.self.unwanted ≤ n) c.unneeded.ensures c.leave.ensures.most) c.in-Ok.ensures.settled
    (c.go_on.ensures.closes (read-as _ _ _ _ c.in-Ok.ensures.kept c.in-Ok.ensures.quits
    (read-so g.G.Gateway.rules g.G.Gateway.order overlap told input input_now first earlier before
    (sent ++ c.args.outbox.now) c.args.connection.now (call ∷ c.args.calls.now.list)
    (call-some c.args.connection.now.waiting c.requires.due) come)))

pub returns-in-Err-clause-asks : goal.returns-in-Err-clause-asks
returns-in-Err-clause-asks g c = λ overlap told input_now earlier now sent call has input first before come.
    takes-part g.G.Gateway.rules told sent earlier now c.args.connection.now c.settle.new.self c.args.calls.now.list
    c.leave.new.self.list c.leave.new.self.unwanted _ c.args.outbox.now c.settle.new.sink
    call c.args.end has c.leave.ensures.list (subst (λ (n : ℕ). c.leave.new.self.unwanted ≤ n) c.unneeded.ensures
    c.leave.ensures.most) c.in-Err.ensures.stays c.in-Err.ensures.part
