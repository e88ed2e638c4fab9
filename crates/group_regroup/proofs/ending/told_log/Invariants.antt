use Rattle.std.proofs.Common.{◌≡◌, ◌++◌, drop}
use Rattle.group_regroup.specs.Kept.{entries_from}
use Rattle.group_regroup.proofs.ending.told_log.Given as goal

abbrev pub invariant-places : goal.invariant-places
invariant-places l = l.told.items ++ entries_from l.fn.bases l.fn.k l.fn.lowered l.place (drop l.place l.fn.log)
    ≡ entries_from l.fn.bases l.fn.k l.fn.lowered 0 l.fn.log
