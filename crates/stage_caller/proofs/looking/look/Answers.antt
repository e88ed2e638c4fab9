use Rattle.stage_caller.specs.Calling.{wish_of}
use Rattle.stage_caller.proofs.Stepping.{same-seat, shown}
use Rattle.stage_caller.proofs.looking.look.Goals as goal

pub returns-clause-stepped : goal.returns-clause-stepped
returns-clause-stepped c = λ op.
    let seat = c.args.seat.now in
    shown (wish_of seat op) c.args.phase c.args.from c.args.to seat c.try_look.new.seat c.try_look.result c.look_step.result
    (same-seat c.args.stage.now seat c.try_look.new.seat c.requires.seat c.try_look.ensures.seat c.try_look.ensures.caller)
    c.try_look.ensures.looked
    c.look_step.ensures
