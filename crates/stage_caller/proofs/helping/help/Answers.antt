use Rattle.std.proofs.Common.{refl}
use Rattle.group_calls.specs.declared.event.Answer.{Answer}
use Rattle.group_calls.specs.declared.event.Event.TheVariants.{Deliver}
use Rattle.stage_caller.specs.Calling.{wish_of}
use Rattle.stage_caller.specs.declared.phase.Next.TheVariants.{Goes}
use Rattle.stage_caller.proofs.Stepping.{same-seat, stepped}
use Rattle.stage_caller.proofs.helping.help.Goals as goal

pub returns-clause-stepped : goal.returns-clause-stepped
returns-clause-stepped c = λ op.
    let seat = c.args.seat.now in
    stepped (wish_of seat op) c.args.phase (Deliver c.args.from c.args.to) (λ (a : Answer). Goes c.args.phase) seat
    c.try_deliver.new.seat c.in_ok-ended.ended c.help_step.result
    (same-seat c.args.stage.now seat c.try_deliver.new.seat c.requires.seat c.try_deliver.ensures.seat c.try_deliver.ensures.caller)
    c.in_ok-ended.ensures.ended
    (λ a. refl)
    c.help_step.ensures
