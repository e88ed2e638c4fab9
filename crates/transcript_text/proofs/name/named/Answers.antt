use Rattle.transcript_text.proofs.Fronts.{no_call, no_caller}
use Rattle.transcript_text.proofs.name.named.Goals as goal

pub returns-in_err-caller : goal.returns-in_err-caller
returns-in_err-caller c = rw c.from_residual-in_err-caller.ensures
    (no_caller c.args.line.now c.in_ok-numbers.numbers.now c.in_ok-numbers.ensures c.in_err-caller.ensures)

pub returns-in_err-call : goal.returns-in_err-call
returns-in_err-call c = rw c.from_residual-in_err-call.ensures
    (no_call c.args.line.now c.in_ok-numbers.numbers.now c.in_ok-caller.caller c.in_ok-caller.call.now
    c.in_ok-numbers.ensures c.in_ok-caller.ensures.0 c.in_ok-caller.ensures.1 c.in_err-call.ensures)
