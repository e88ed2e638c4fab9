use Rattle.std.proofs.Common.{sym, ◌∙◌}
use Rattle.group_stage.proofs.Called.{not-worn, ready}
use Rattle.group_stage.proofs.Peeking.{seat-looked}
use Rattle.group_stage.proofs.stage.Stage.try_look.Goals as goal

pub look_as-looked-requires-clause-ready : goal.look_as-looked-requires-clause-ready
look_as-looked-requires-clause-ready c =
    let seat = c.args.seat.now in
    ready seat.raw.me seat.caller seat.calls seat.asks seat.is_seat (not-worn seat.calls (sym c.is_worn.ensures ∙ c.if-is_worn.false) seat.is_seat.few)

pub invariant_of-seat : goal.invariant_of-seat
invariant_of-seat c =
    let seat = c.args.seat.now in
    let low = not-worn seat.calls (sym c.is_worn.ensures ∙ c.if-is_worn.false) seat.is_seat.few in
    record {
      is_seat = seat-looked c.args.from c.args.to seat.raw.me c.look_as-looked.new.seat.me seat.caller seat.calls
          seat.asks c.look_as-looked.result seat.is_seat low c.look_as-looked.ensures.looked
          c.look_as-looked.ensures.slots;
    }
