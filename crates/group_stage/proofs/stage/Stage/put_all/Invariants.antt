use Rattle.std.proofs.Common.{◌≡◌, ◌≤◌, length}
use Rattle.group_stage.proofs.Deaths.{GivesBack}
use Rattle.group_stage.proofs.stage.Stage.put_all.Given as goal

abbrev pub invariant-nodes : goal.invariant-nodes
invariant-nodes l = record {
  table : l.seat.table_id ≡ l.initial.seat.table_id;
  fewer : length l.nodes.nodes ≤ length l.initial.nodes.nodes;
  back : GivesBack l.initial.seat.me l.seat.me l.nodes.nodes (length l.initial.nodes.nodes);
}

abbrev pub decreases-nodes : goal.decreases-nodes
decreases-nodes l = length l.nodes.nodes
