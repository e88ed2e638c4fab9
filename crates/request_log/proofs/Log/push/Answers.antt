use Rattle.std.proofs.Common.{arith}
use Rattle.request_log.proofs.Numbered.{numbered_push}
use Rattle.request_log.proofs.Log.push.Goals as goal

-- the new update has the number after the last
pub invariant_of-self : goal.invariant_of-self
invariant_of-self g c =
    let next = rw (← c.self.view_is) at c.requires.next in
    let room = rw (← c.self.view_is) at c.requires.room in (
      omega (arith, room, c.self.invariant.0, c.in-Ok.ensures.len, c.push_back.ensures.capacity),
      rw c.in-Ok.ensures.items (numbered_push g.N.Numbering.number_of c.self.inside.updates.items c.self.inside.applied c.args.update c.self.invariant.1 next),
    )
