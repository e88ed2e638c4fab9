use Rattle.transcript_text.proofs.Fronts.{no_cas, no_flags}
use Rattle.transcript_text.proofs.reply.item_value.Goals as goal

pub returns-in_err-numbers-2 : goal.returns-in_err-numbers-2
returns-in_err-numbers-2 c = rw c.from_residual-in_err-numbers-2.ensures
    (no_flags c.args.text.now c.in_ok-numbers.numbers.now c.in_ok-numbers.ensures c.in_err-numbers-2.ensures)

pub returns-in_err-value : goal.returns-in_err-value
returns-in_err-value c = rw c.from_residual-in_err-value.ensures
    (no_cas c.args.text.now c.in_ok-numbers.numbers.now c.in_ok-numbers-2.field-0-0 c.in_ok-numbers-2.numbers.now
    c.in_ok-numbers.ensures c.in_ok-numbers-2.ensures.0 c.in_ok-numbers-2.ensures.1 c.in_err-value.ensures)
