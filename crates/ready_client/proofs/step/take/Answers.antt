use Rattle.ready_client.proofs.Coming.{taken, wants}
use Rattle.ready_client.proofs.step.take.Goals as goal
use Rattle.std.proofs.Common.{inl, refl}
use Rattle.ready_client.proofs.Asking.{read-behind}

pub returns-in-Ok-clause-comes : goal.returns-in-Ok-clause-comes
returns-in-Ok-clause-comes g c = λ overlap told input input_then input_now first ends before sent goes consumed.
    c.go_on.ensures.comes overlap told input input_now first ends before sent
    (taken _ told input input_then input_now _ _ c.args.connection.now _ _ goes consumed c.requires.short
    (c.in-Ok.ensures.taken _ _ goes.has_read) c.in-Ok.ensures.quits c.in-Ok.ensures.count)

pub returns-in-Err-clause-comes : goal.returns-in-Err-clause-comes
returns-in-Err-clause-comes g c = λ overlap told input input_then input_now first ends before sent goes consumed.
    wants _ told input input_then input_now _ _ c.args.connection.now _ goes consumed c.requires.short

pub returns-in-Ok-clause-closes : goal.returns-in-Ok-clause-closes
returns-in-Ok-clause-closes g c =
    λ so. c.go_on.ensures.closes (read-behind c.args.connection.now.kept c.take.new.self.kept c.args.piece.now
    c.take.new.self.waiting c.take.new.self.quits so c.in-Ok.ensures.taken c.in-Ok.ensures.quits)

pub returns-in-Err-clause-closes : goal.returns-in-Err-clause-closes
returns-in-Err-clause-closes g c = λ so. inl refl
