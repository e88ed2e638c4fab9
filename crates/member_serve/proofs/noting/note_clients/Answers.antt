use Rattle.std.proofs.Common.{arith, ap, length}
use Rattle.member_serve.proofs.noting.note_clients.Goals as goal

pub events-preserved : goal.events-preserved
events-preserved c = record {
  room = omega (arith, c.events.invariant.room, ap length c.in-Some.ensures.steps, c.note_client.ensures.few, c.note_client.ensures.room);
  more = omega (arith, c.events.invariant.more, c.note_client.ensures.room);
}
