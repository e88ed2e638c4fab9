use Rattle.std.proofs.Common.{◌≡◌, ◌≤◌, length, true, refl, arith}
use Rattle.request_log.proofs.Numbered.{last_found}
use Rattle.request_log.proofs.Log.holds_key.Goals as goal

-- this update is on the key, and none behind it is
pub returns-then-eq : goal.returns-then-eq
returns-then-eq g c =
    let within : c.updates.index ≤ length c.self.inside.updates.items = omega (arith, c.len-index.ensures) in
    let on_key : g.N.Key.PartialEq.eq (g.N.Numbering.key_of c.index-update.result.now) c.args.key.now ≡ true =
    rw (← c.key.ensures, ← c.eq.ensures) c.if-eq.true in
    let found = last_found (λ update. g.N.Key.PartialEq.eq (g.N.Numbering.key_of update) c.args.key.now)
    c.args.self.now.updates c.updates.index c.index-update.result.now (omega arith) (rw (← c.self.view_is) within)
    (rw (← c.self.view_is) c.index-update.ensures) c.updates.invariant on_key in
    rw (found, c.number.ensures) refl
