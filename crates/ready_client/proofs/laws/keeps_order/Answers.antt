use Rattle.ready_client.proofs.Ordering.{answered-in-order}
use Rattle.ready_client.proofs.laws.keeps_order.Goals as goal

pub returns : goal.returns
returns g c = answered-in-order g.C.Caller.ways g.C.Caller.later g.C.Caller.order
