use Rattle.std.proofs.Common.{◌≡◌, ◌++◌, drop}
use Rattle.head_service.proofs.news.copy_all.Given as goal

abbrev pub invariant-updates : goal.invariant-updates
invariant-updates l = l.list.items ++ drop l.update-index l.updates ≡ l.updates
