use Rattle.std.proofs.Common.{◌≡◌, ◌++◌, flat_map, map}
use Rattle.group_types.specs.declared.process.ProcessId.TheVariants.{DataNode}
use Rattle.membership.specs.Members.{knows_dead}
use Rattle.leader_role.specs.Starting.{marks_at, marks_of_lost}
use Rattle.leader_role.proofs.Ranges.{found_from}
use Rattle.leader_role.proofs.start.Start.mark_lost.Given as goal

abbrev pub invariant-partitions : goal.invariant-partitions
invariant-partitions l =
    l.sent.items ++ flat_map (marks_at l.self l.rows (map (λ r. r.0) l.ranks) (map (λ r. r.replica) l.replicas))
    (found_from (λ d. knows_dead l.known (DataNode d)) l.fn.shape.k l.d)
    ≡ l.initial.sent.items ++ marks_of_lost l.self l.fn.shape l.known l.rows (map (λ r. r.0) l.ranks) (map (λ r. r.replica) l.replicas)
