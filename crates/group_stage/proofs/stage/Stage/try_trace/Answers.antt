use Rattle.std.proofs.Common.{sym, ◌∙◌, refl}
use Rattle.std.specs.Prelude.{Ok}
use Rattle.group_calls.specs.declared.event.Event.TheVariants.{Trace}
use Rattle.group_stage.proofs.Called.{called, not-worn, ready}
use Rattle.group_stage.proofs.stage.Stage.try_trace.Goals as goal

pub trace_as-ended-requires-clause-ready : goal.trace_as-ended-requires-clause-ready
trace_as-ended-requires-clause-ready c =
    let seat = c.args.seat.now in
    ready seat.raw.me seat.caller seat.calls seat.asks seat.is_seat (not-worn seat.calls (sym c.is_worn.ensures ∙ c.if-is_worn.false) seat.is_seat.few)

pub invariant_of-seat : goal.invariant_of-seat
invariant_of-seat c =
    let seat = c.args.seat.now in
    let low = not-worn seat.calls (sym c.is_worn.ensures ∙ c.if-is_worn.false) seat.is_seat.few in
    record {
      is_seat = called (Trace c.args.seat.now.caller c.args.call c.args.partition c.args.at) seat.raw.me
          c.trace_as-ended.new.seat.me seat.caller seat.calls seat.asks seat.is_seat (Ok c.trace_as-ended.result) low
          c.trace_as-ended.ensures.ended c.trace_as-ended.ensures.slots refl;
    }
