use Rattle.std.proofs.Common.{◌≡◌, ◌++◌, drop}
use Rattle.group_regroup.specs.Kept.{entries_from}
use Rattle.group_regroup.proofs.last.told_since.Given as goal

abbrev pub invariant-places : goal.invariant-places
invariant-places l = l.told.items ++ entries_from l.fn.bases l.fn.k l.fn.lowered l.place (drop l.place l.fn.log)
    ≡ drop l.fn.from (entries_from l.fn.bases l.fn.k l.fn.lowered 0 l.fn.log)
