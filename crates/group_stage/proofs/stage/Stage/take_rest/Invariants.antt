use Rattle.std.proofs.Common.{◌≡◌, ◌≤◌, List, length}
use Rattle.group_calls.specs.declared.event.Event.{Event}
use Rattle.group_types.specs.Dimensions.{processes_of}
use Rattle.group_stage.specs.Gathered.{holding_all, sat_with}
use Rattle.group_stage.specs.Steps.{Knows}
use Rattle.group_stage.proofs.stage.Stage.take_rest.Given as goal

abbrev pub invariant-processes : goal.invariant-processes
invariant-processes l = record {
  table : l.seat.table_id ≡ l.initial.seat.table_id;
  many : length l.nodes.nodes ≡ l.place;
  room : l.nodes.room ≡ processes_of l.self.plan.shape;
  within : l.place ≤ processes_of l.self.plan.shape;
  seat : l.seat.me ≡ sat_with l.initial.seat.me.0 l.nodes.nodes;
  knows : (es : List Event) × Knows es (holding_all l.initial.seat.me.0 l.nodes.nodes);
}
