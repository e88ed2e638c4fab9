use Rattle.std.proofs.Common.{◌≡◌, ◌-◌, drop}
use Rattle.request_log.proofs.Log.adopt.Given as goal

abbrev pub invariant-applied : goal.invariant-applied
invariant-applied g l = l.kept.items ≡ drop (l.counter - l.base) l.fn.list
