use Rattle.std.proofs.Common.{◌≡◌, ◌++◌}
use Rattle.group_types.specs.declared.process.ProcessId.TheVariants.{DataNode}
use Rattle.membership.specs.Members.{knows_dead}
use Rattle.leader_role.specs.Starting.{dead_data}
use Rattle.leader_role.proofs.Ranges.{found_from}
use Rattle.leader_role.proofs.rows.lost.Given as goal

abbrev pub invariant-partitions : goal.invariant-partitions
invariant-partitions l = l.dead.items ++ found_from (λ d. knows_dead l.known (DataNode d)) l.fn.shape.k l.d ≡ dead_data l.fn.shape l.known
