use Rattle.std.proofs.Common.{ℕ, refl, subst}
use Rattle.group_calls.specs.declared.event.Event.TheVariants.{Ask}
use Rattle.stage_caller.specs.Calling.{asked_to, wish_of}
use Rattle.stage_caller.specs.Moving.{SaysByAnswer}
use Rattle.stage_caller.specs.declared.phase.Phase.TheVariants.{Asks}
use Rattle.stage_caller.proofs.Stepping.{same-seat, stepped}
use Rattle.stage_caller.proofs.asking.ask.Goals as goal

pub returns-clause-stepped : goal.returns-clause-stepped
returns-clause-stepped c =
    let seat = c.args.seat.now in
    stepped (wish_of seat c.args.op.now) Asks (Ask seat.caller c.args.op.now c.args.at) (asked_to seat.asks) seat
    c.try_ask.new.seat c.in_ok-ended.ended c.ask_step.result
    (same-seat c.args.stage.now seat c.try_ask.new.seat c.requires.seat c.try_ask.ensures.seat c.try_ask.ensures.caller)
    c.in_ok-ended.ensures.ended
    (λ a. (refl, refl, refl, refl))
    (subst (λ (n : ℕ). SaysByAnswer (asked_to n) Asks c.in_ok-ended.ended c.ask_step.result) c.asks-call.ensures c.ask_step.ensures)
