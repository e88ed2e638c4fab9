use Rattle.std.proofs.Common.{sym, ◌∙◌, refl}
use Rattle.group_calls.specs.declared.event.Event.TheVariants.{Fail}
use Rattle.group_stage.proofs.Called.{called, not-worn, ready}
use Rattle.group_stage.proofs.stage.Stage.try_fail.Goals as goal

pub fail_as-ended-requires-clause-ready : goal.fail_as-ended-requires-clause-ready
fail_as-ended-requires-clause-ready c =
    let seat = c.args.seat.now in
    ready seat.raw.me seat.caller seat.calls seat.asks seat.is_seat (not-worn seat.calls (sym c.is_worn.ensures ∙ c.if-is_worn.false) seat.is_seat.few)

pub invariant_of-seat : goal.invariant_of-seat
invariant_of-seat c =
    let seat = c.args.seat.now in
    let low = not-worn seat.calls (sym c.is_worn.ensures ∙ c.if-is_worn.false) seat.is_seat.few in
    record {
      is_seat = called (Fail c.args.at c.args.keep) seat.raw.me c.fail_as-ended.new.seat.me seat.caller
          seat.calls seat.asks seat.is_seat c.fail_as-ended.result low c.fail_as-ended.ensures.ended
          c.fail_as-ended.ensures.slots refl;
    }
