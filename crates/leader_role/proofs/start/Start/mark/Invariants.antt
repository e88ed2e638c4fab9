use Rattle.std.proofs.Common.{◌≡◌, ◌++◌, drop}
use Rattle.leader_role.specs.Starting.{marks}
use Rattle.leader_role.proofs.start.Start.mark.Given as goal

abbrev pub invariant-rows : goal.invariant-rows
invariant-rows l = l.sent.items ++ marks l.self l.rank l.partition l.number (drop l.row-index l.rows)
    ≡ l.initial.sent.items ++ marks l.self l.rank l.partition l.number l.rows
