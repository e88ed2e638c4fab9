use Rattle.std.proofs.Common.{◌≡◌, ◌++◌, map, not}
use Rattle.group_types.specs.declared.process.ProcessId.TheVariants.{DataNode}
use Rattle.membership.specs.Members.{knows_dead}
use Rattle.leader_role.specs.Starting.{read_of, reads}
use Rattle.leader_role.proofs.Ranges.{found_from}
use Rattle.leader_role.proofs.start.Start.ask.Given as goal

abbrev pub invariant-partitions : goal.invariant-partitions
invariant-partitions l = l.sent.items ++ map (read_of l.self l.rows) (found_from (λ d. not (knows_dead l.known (DataNode d))) l.fn.shape.k l.d)
    ≡ l.initial.sent.items ++ reads l.self l.fn.shape l.known l.rows
