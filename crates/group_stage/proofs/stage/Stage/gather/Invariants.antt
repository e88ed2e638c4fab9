use Rattle.std.proofs.Common.{◌≡◌, ◌+◌, ◌<◌, List, [], ◌∷◌, length, map}
use Rattle.group_calls.specs.declared.event.Event.{Event}
use Rattle.group_stage.specs.Kept.{IsWholeSchedule}
use Rattle.group_stage.specs.Seated.{AreSeatsOf, view_of}
use Rattle.group_stage.proofs.stage.Stage.gather.Given as goal

abbrev pub invariant-seats : goal.invariant-seats
invariant-seats l = record {
  table : l.all.table_id ≡ l.fn.self.table.shared.table_id;
  some : 0 < l.all.me.0.parts;
  parts : l.all.me.0.parts + length l.rest.seats ≡ l.fn.self.plan.callers;
  idle : l.all.me.0.held ≡ [];
  of_stage : AreSeatsOf l.fn.self l.rest.seats;
  whole : (es : List Event) → IsWholeSchedule l.fn.self.plan.shape es (l.all.me.0 ∷ map view_of l.rest.seats)
      → IsWholeSchedule l.fn.self.plan.shape es (map view_of l.fn.seats.seats);
}

abbrev pub decreases-seats : goal.decreases-seats
decreases-seats l = length l.rest.seats
