use Rattle.std.proofs.Common.{◌≡◌, drop, None}
use Rattle.request_log.specs.Logged.{find_last}
use Rattle.request_log.proofs.Log.holds_key.Given as goal

abbrev pub invariant-updates : goal.invariant-updates
invariant-updates g l = find_last (λ update. g.N.Key.PartialEq.eq (g.N.Numbering.key_of update) l.key) (drop l.index l.self.updates) ≡ None
