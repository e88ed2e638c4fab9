use Rattle.std.proofs.Common.{arith, ap, length}
use Rattle.ready_worker.proofs.Noting.{noted}
use Rattle.ready_worker.proofs.poll_readiness.note.Goals as goal

pub events-preserved : goal.events-preserved
events-preserved c = record {
  notices = noted _ _ _ _ c.notice_of.result _ _ _ c.events.invariant.notices c.in-Some.ensures.steps
      c.in-Ok.ensures.items c.notice_of.ensures;
  room = omega (arith, c.events.invariant.room, ap length c.in-Some.ensures.steps, c.in-Ok.ensures.len, c.push.ensures.capacity);
  more = omega (arith, c.events.invariant.more, c.push.ensures.capacity);
}
