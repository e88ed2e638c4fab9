use Rattle.std.proofs.Common.{inl, inr, refl}
use Rattle.ready_client.proofs.Asking.{closes-so}
use Rattle.ready_client.proofs.Coming.{closes, stepped-to}
use Rattle.ready_client.proofs.Telling.{closed}
use Rattle.ready_client.proofs.step.go_on.Goals as goal

pub returns-then-has_waiting : goal.returns-then-has_waiting
returns-then-has_waiting g c =
    record {
      comes = λ overlap told input input_now first ends before sent under. inr
          (c.has_waiting.ensures.some c.if-has_waiting.true, under);
      closes = λ so. inl refl;
    }

pub returns : goal.returns
returns g c = record {
  comes = λ overlap told input input_now first ends before sent under. stepped-to _ _ _ _ _ _ _ _ _ c.step_of.ensures
      (closes _ told input input_now _ _ _ _ _ c.close.result under (c.has_waiting.ensures.none c.if-has_waiting.false)
      (λ fed requests read quits. closed sent _ _ _ _ _ (c.close.ensures.closed fed requests read quits)));
  closes = λ so. closes-so c.args.connection.now.quits so.has_read.rest c.args.outbox.now c.close.new.sink
      c.args.connection.now.waiting c.close.result (c.has_waiting.ensures.none c.if-has_waiting.false)
      (c.close.ensures.closed so.fed so.requests so.has_read so.quit);
}
