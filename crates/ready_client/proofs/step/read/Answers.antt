use Rattle.std.proofs.Common.{◌++◌, ℕ, List, Err, ap, refl, inl, arith}
use Rattle.front_end.specs.declared.end.ConnectionFault.TheVariants.{ReadFault}
use Rattle.front_end.proofs.Serving.{served-ended, served-worn, served-read_fault}
use Rattle.outbox.specs.declared.reading.Reading.TheVariants.{Came, Ended, Waits}
use Rattle.ready_client.proofs.Coming.{came, moved, still}
use Rattle.ready_client.proofs.step.read.Goals as goal
use Rattle.ready_client.proofs.Asking.{closes-behind}

pub returns-then-most-eq0-clause-comes : goal.returns-then-most-eq0-clause-comes
returns-then-most-eq0-clause-comes g c = λ overlap told input first ends before goes. served-worn _ _ _ _ _ _ _ _ goes
    (omega (arith, c.most-most.ensures, c.if-most-eq0.true, c.requires.within))

pub returns-in-Ok-Came-clause-comes : goal.returns-in-Ok-Came-clause-comes
returns-in-Ok-Came-clause-comes g c = λ overlap told input first ends before goes. c.take.ensures.comes overlap
    told input _ _ first ends before (g.S.TryStream.held c.try_read.new.self)
    (moved _ told input _ _ ends _ _ _ c.args.connection.now c.in-Ok-Came.ensures.held goes)
    (came _ _ c.try_read.result _ (Came c.in-Ok-Came.n) _ c.try_read.ensures.bytes c.in-Ok-Came.is
    c.in-Ok-Came.field-0-is).0

pub returns-in-Ok-Ended-clause-comes : goal.returns-in-Ok-Ended-clause-comes
returns-in-Ok-Ended-clause-comes g c = λ overlap told input first ends before goes.
    let now = moved _ told input _ _ ends _ (g.S.TryStream.held c.try_read.new.self) _ c.args.connection.now c.in-Ok-Ended.ensures.held goes in
    served-ended _ told input _ _ _ _ _ _ now _ (omega (arith, c.most-most.ensures, c.if-most-eq0.false))
    (came _ _ c.try_read.result _ Ended _ c.try_read.ensures.bytes c.in-Ok-Ended.is c.in-Ok-Ended.field-0-is).0
    (came _ _ c.try_read.result _ Ended _ c.try_read.ensures.bytes c.in-Ok-Ended.is c.in-Ok-Ended.field-0-is).1
    (c.end.ensures now.read now.requests now.has_read now.no_quit)

pub returns-in-Ok-Waits-clause-comes : goal.returns-in-Ok-Waits-clause-comes
returns-in-Ok-Waits-clause-comes g c = λ overlap told input first ends before goes. inl (
  c.requires.idle,
  still _ told input _ _ _ _ _ _ _
      (moved _ told input _ _ ends _ _ _ c.args.connection.now c.in-Ok-Waits.ensures.held goes) refl
      (came _ _ c.try_read.result _ Waits _ c.try_read.ensures.bytes c.in-Ok-Waits.is c.in-Ok-Waits.field-0-is).0,
)

pub returns-in-Err-clause-comes : goal.returns-in-Err-clause-comes
returns-in-Err-clause-comes g c = λ overlap told input first ends before goes. served-read_fault _ told input _ _ _ _ _
    _ (Err ReadFault) (moved _ told input _ _ ends _ _ _ c.args.connection.now c.in-Err.ensures.held goes)
    c.in-Err.ensures.bytes.0 refl

pub returns-then-most-eq0-clause-closes : goal.returns-then-most-eq0-clause-closes
returns-then-most-eq0-clause-closes g c = λ so. inl refl

pub returns-in-Ok-Came-clause-closes : goal.returns-in-Ok-Came-clause-closes
returns-in-Ok-Came-clause-closes g c =
    λ so. rw c.in-Ok-Came.ensures.held (closes-behind (g.S.TryStream.held c.args.stream.now) c.args.outbox.now
    c.take.new.outbox c.take.new.connection.waiting (c.take.ensures.closes so))

pub returns-in-Ok-Ended-clause-closes : goal.returns-in-Ok-Ended-clause-closes
returns-in-Ok-Ended-clause-closes g c = λ so. inl (ap (λ (bs : List ℕ). bs ++ c.args.outbox.now) c.in-Ok-Ended.ensures.held)

pub returns-in-Ok-Waits-clause-closes : goal.returns-in-Ok-Waits-clause-closes
returns-in-Ok-Waits-clause-closes g c = λ so. inl (ap (λ (bs : List ℕ). bs ++ c.args.outbox.now) c.in-Ok-Waits.ensures.held)

pub returns-in-Err-clause-closes : goal.returns-in-Err-clause-closes
returns-in-Err-clause-closes g c = λ so. inl (ap (λ (bs : List ℕ). bs ++ c.args.outbox.now) c.in-Err.ensures.held)
