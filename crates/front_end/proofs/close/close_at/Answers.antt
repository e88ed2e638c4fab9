use Rattle.std.proofs.Common.{◌∙◌, refl}
use Rattle.front_end.proofs.Piecing.{closed-fault, closed-told, not-so}
use Rattle.front_end.proofs.close.close_at.Goals as goal

pub returns-in_err-write_text-clause-closed : goal.returns-in_err-write_text-clause-closed
returns-in_err-write_text-clause-closed g c = λ input requests read is. closed-fault _ _ _ _ _ c.from_residual.result _
    _ _ c.if-quits.false ((c.too_long.ensures input requests read (is ∙ c.if-quits.false)).0 c.if-too_long.true)
    c.too_long_text.ensures c.in_err-write_text.ensures.part c.in_err-write_text.ensures.cause c.from_residual.ensures.1

pub returns-then-too_long-clause-closed : goal.returns-then-too_long-clause-closed
returns-then-too_long-clause-closed g c = λ input requests read is. (
  c.if-quits.false,
  (c.too_long.ensures input requests read (is ∙ c.if-quits.false)).0 c.if-too_long.true,
  closed-told _ _ _ c.too_long_text.ensures c.in_ok-write_text.ensures.whole,
)

pub returns-clause-closed : goal.returns-clause-closed
returns-clause-closed g c = λ input requests read is. (
  c.if-quits.false,
  not-so _ _ (c.too_long.ensures input requests read (is ∙ c.if-quits.false)) c.if-too_long.false,
  refl,
)
