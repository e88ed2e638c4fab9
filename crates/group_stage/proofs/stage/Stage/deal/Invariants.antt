use Rattle.std.proofs.Common.{◌≡◌, ◌+◌, ◌-◌, ◌≤◌, [], length}
use Rattle.std.specs.Vec.{vec_capacity}
use Rattle.group_stage.specs.Dealt.{AreNew}
use Rattle.group_stage.specs.Views.{blank}
use Rattle.group_stage.proofs.stage.Stage.deal.Given as goal

abbrev pub invariant-callers : goal.invariant-callers
invariant-callers l = record {
  table : l.raw.table_id ≡ l.fn.self.table.shared.table_id;
  seat : l.raw.me ≡ (blank l.fn.self.plan.shape (l.fn.self.plan.callers - (l.number - 1)) 1 (l.number - 1), []);
  many : length l.seats.items + 1 ≡ l.number;
  room : l.fn.self.plan.callers ≤ vec_capacity l.seats;
  new : AreNew l.fn.self l.seats.items;
}
