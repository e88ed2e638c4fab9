use Rattle.stage_caller.specs.Calling.{MadeNoEvent}
use Rattle.stage_caller.proofs.Deaths.{idle-on, on-err}
use Rattle.stage_caller.proofs.Stepping.{same-seat}
use Rattle.stage_caller.proofs.failing.fail_process.Goals as goal

pub returns-in_err-answer-clause-idle : goal.returns-in_err-answer-clause-idle
returns-in_err-answer-clause-idle c =
    on-err c.from_residual.result (MadeNoEvent c.args.seat.now c.try_fail.new.seat)
    (idle-on c.args.seat.now c.tries.seat c.try_fail.new.seat c.tries.invariant.idle
    (same-seat c.args.stage.now c.tries.seat c.try_fail.new.seat c.tries.invariant.of c.try_fail.ensures.seat c.try_fail.ensures.caller)
    c.in_err-answer.ensures.ended)
