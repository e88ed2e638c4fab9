use Rattle.std.proofs.Common.{sym}
use Rattle.partition_replica.proofs.Keys.{items_in-put, ready_in-same, slot_in-items_in, with_none}
use Rattle.partition_replica.proofs.items.touch.Goals as goal

pub returns-in-Some-clause-items : goal.returns-in-Some-clause-items
returns-in-Some-clause-items c n = rw (slot_in-items_in c.args.index.now c.args.key.now, ← c.get.ensures, c.in-Some.is)
    (items_in-put _ _ _ _ c.put.ensures.slots)

pub returns-in-Some-clause-ready : goal.returns-in-Some-clause-ready
returns-in-Some-clause-ready c = ready_in-same _ _ c.put.ensures.ready

pub returns-in_default-clause-items : goal.returns-in_default-clause-items
returns-in_default-clause-items c n = rw (
  slot_in-items_in c.args.index.now c.args.key.now,
  ← c.get.ensures,
  c.in_default.is,
) (with_none _ _ (rw c.in_default.is at (sym c.get.ensures)))
