use Rattle.std.proofs.Common.{◌≡◌, ◌++◌, drop}
use Rattle.group_regroup.proofs.last.copies.Given as goal

abbrev pub invariant-places : goal.invariant-places
invariant-places l = l.entries.items ++ drop l.place l.fn.log ≡ drop l.fn.from l.fn.log
