use Rattle.std.proofs.Common.{◌+◌, ℕ, sym, subst, ◌∙◌}
use Rattle.group_calls.specs.declared.event.Event.TheVariants.{Ask}
use Rattle.group_stage.specs.Ended.{IsSeat}
use Rattle.group_stage.proofs.Called.{asked-once, not-worn, ready, own-ask}
use Rattle.group_stage.proofs.stage.Stage.try_ask.Goals as goal

pub ask_as-ended-requires-clause-ready : goal.ask_as-ended-requires-clause-ready
ask_as-ended-requires-clause-ready c =
    let seat = c.args.seat.now in
    ready seat.raw.me seat.caller seat.calls seat.asks seat.is_seat (not-worn seat.calls (sym c.is_worn.ensures ∙ c.if-is_worn.false) seat.is_seat.few)

pub invariant_of-seat : goal.invariant_of-seat
invariant_of-seat c =
    let seat = c.args.seat.now in
    let low = not-worn seat.calls (sym c.is_worn.ensures ∙ c.if-is_worn.false) seat.is_seat.few in
    let all = asked-once (Ask c.args.seat.now.caller c.args.op.now c.args.at) seat.raw.me c.ask_as-ended.new.seat.me
    seat.caller seat.calls seat.asks seat.is_seat c.ask_as-ended.result low c.ask_as-ended.ensures.ended
    c.ask_as-ended.ensures.slots (own-ask seat.caller) in
    record { is_seat = subst (λ (n : ℕ). IsSeat c.ask_as-ended.new.seat.me seat.caller (seat.calls + 1) (seat.asks + n)) (sym c.made_in.ensures) all }
