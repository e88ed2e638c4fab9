use Rattle.std.proofs.Common.{sym, ◌∙◌, refl}
use Rattle.group_calls.specs.declared.event.Event.TheVariants.{Deliver}
use Rattle.group_stage.proofs.Called.{called, not-worn, ready}
use Rattle.group_stage.proofs.stage.Stage.try_deliver.Goals as goal

pub deliver_as-ended-requires-clause-ready : goal.deliver_as-ended-requires-clause-ready
deliver_as-ended-requires-clause-ready c =
    let seat = c.args.seat.now in
    ready seat.raw.me seat.caller seat.calls seat.asks seat.is_seat (not-worn seat.calls (sym c.is_worn.ensures ∙ c.if-is_worn.false) seat.is_seat.few)

pub invariant_of-seat : goal.invariant_of-seat
invariant_of-seat c =
    let seat = c.args.seat.now in
    let low = not-worn seat.calls (sym c.is_worn.ensures ∙ c.if-is_worn.false) seat.is_seat.few in
    record {
      is_seat = called (Deliver c.args.from c.args.to) seat.raw.me c.deliver_as-ended.new.seat.me seat.caller
          seat.calls seat.asks seat.is_seat c.deliver_as-ended.result low c.deliver_as-ended.ensures.ended
          c.deliver_as-ended.ensures.slots refl;
    }
