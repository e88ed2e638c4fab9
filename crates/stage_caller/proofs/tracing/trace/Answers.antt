use Rattle.std.proofs.Common.{refl}
use Rattle.group_calls.specs.declared.event.Event.TheVariants.{Trace}
use Rattle.stage_caller.specs.Calling.{traced_to, wish_of}
use Rattle.stage_caller.specs.declared.phase.Phase.TheVariants.{Waits}
use Rattle.stage_caller.proofs.Stepping.{same-seat, stepped}
use Rattle.stage_caller.proofs.tracing.trace.Goals as goal

pub returns-clause-stepped : goal.returns-clause-stepped
returns-clause-stepped c = λ op home.
    let seat = c.args.seat.now in
    stepped (wish_of seat op) (Waits c.args.call) (Trace seat.caller c.args.call c.args.partition c.args.at)
    (traced_to c.args.call) seat c.try_trace.new.seat c.in_ok-ended.ended c.trace_step.result
    (same-seat c.args.stage.now seat c.try_trace.new.seat c.requires.seat c.try_trace.ensures.seat c.try_trace.ensures.caller)
    c.in_ok-ended.ensures.ended
    (λ a. (refl, refl, home, refl))
    c.trace_step.ensures
