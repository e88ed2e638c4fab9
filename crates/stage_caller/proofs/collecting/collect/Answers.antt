use Rattle.std.proofs.Common.{refl}
use Rattle.group_calls.specs.declared.event.Event.TheVariants.{Collect}
use Rattle.stage_caller.specs.Calling.{collected_to, wish_of}
use Rattle.stage_caller.specs.declared.phase.Phase.TheVariants.{Waits}
use Rattle.stage_caller.proofs.Stepping.{same-seat, stepped}
use Rattle.stage_caller.proofs.collecting.collect.Goals as goal

pub returns-clause-stepped : goal.returns-clause-stepped
returns-clause-stepped c = λ op.
    let seat = c.args.seat.now in
    stepped (wish_of seat op) (Waits c.args.call) (Collect seat.caller c.args.call c.args.at) (collected_to c.args.call)
    seat c.try_collect.new.seat c.in_ok-ended.ended c.collect_step.result
    (same-seat c.args.stage.now seat c.try_collect.new.seat c.requires.seat c.try_collect.ensures.seat c.try_collect.ensures.caller)
    c.in_ok-ended.ensures.ended
    (λ a. (refl, refl, refl))
    c.collect_step.ensures
