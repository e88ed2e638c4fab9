use Rattle.std.proofs.Common.{◌-◌, ◌<◌, length, deque_len, refl, ap, ◌∙◌, arith}
use Rattle.request_log.proofs.Numbered.{numbered_at}
use Rattle.request_log.proofs.Log.last.Goals as goal

-- the last update has the last number
pub returns-in-Some-clause-last : goal.returns-in-Some-clause-last
returns-in-Some-clause-last g c =
    let some : 0 < length c.self.inside.updates.items = omega (arith, c.in-Some.ensures.variant.0 refl) in
    let number = numbered_at g.N.Numbering.number_of c.self.inside.updates.items c.self.inside.applied
    (deque_len c.self.inside.updates - 1) c.in-Some.update.now c.self.invariant.1 (omega arith) in
    rw (← c.self.view_is) (c.number.ensures ∙ ap g.N.Numbering.number_of c.in-Some.ensures.lookup ∙ number ∙ omega arith)
