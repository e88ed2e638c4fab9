use Rattle.std.proofs.Common.{sym, ◌∙◌, refl}
use Rattle.std.specs.Prelude.{Ok}
use Rattle.group_calls.specs.declared.event.Event.TheVariants.{Collect}
use Rattle.group_stage.proofs.Called.{called, not-worn, ready}
use Rattle.group_stage.proofs.stage.Stage.try_collect.Goals as goal

pub collect_as-ended-requires-clause-ready : goal.collect_as-ended-requires-clause-ready
collect_as-ended-requires-clause-ready c =
    let seat = c.args.seat.now in
    ready seat.raw.me seat.caller seat.calls seat.asks seat.is_seat (not-worn seat.calls (sym c.is_worn.ensures ∙ c.if-is_worn.false) seat.is_seat.few)

pub invariant_of-seat : goal.invariant_of-seat
invariant_of-seat c =
    let seat = c.args.seat.now in
    let low = not-worn seat.calls (sym c.is_worn.ensures ∙ c.if-is_worn.false) seat.is_seat.few in
    record {
      is_seat = called (Collect c.args.seat.now.caller c.args.call c.args.at) seat.raw.me
          c.collect_as-ended.new.seat.me seat.caller seat.calls seat.asks seat.is_seat (Ok c.collect_as-ended.result) low
          c.collect_as-ended.ensures.ended c.collect_as-ended.ensures.slots refl;
    }
