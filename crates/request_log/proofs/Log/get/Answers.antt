use Rattle.std.proofs.Common.{sym, ◌∙◌, ◌-◌, arith}
use Rattle.request_log.proofs.Numbered.{copied_item, find_below, find_numbered}
use Rattle.request_log.proofs.Log.get.Goals as goal

pub returns-then-number-self : goal.returns-then-number-self
returns-then-number-self g c =
    rw (← c.self.view_is)
    (sym (find_below g.N.Numbering.number_of c.self.inside.updates.items c.self.inside.applied c.args.number
    c.self.invariant.1 c.if-number-self.true))

pub returns : goal.returns
returns g c =
    let found = find_numbered g.N.Numbering.number_of c.self.inside.updates.items c.self.inside.applied
    (c.args.number - c.self.inside.applied - 1) c.args.number c.self.invariant.1 (omega arith) in
    rw (← c.self.view_is) (copied_item _ _ _ _ (omega arith) c.get.ensures.variant c.get.ensures.lookup ∙ sym found)
