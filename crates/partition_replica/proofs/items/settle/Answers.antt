use Rattle.std.proofs.Common.{sym, ◌∙◌}
use Rattle.partition_replica.proofs.Keys.{items_in-put, items_in-remove, ready_in-is, ready_in-same}
use Rattle.partition_replica.proofs.items.settle.Goals as goal

pub put-requires : goal.put-requires
put-requires c = sym (ready_in-is _ _) ∙ c.requires

pub returns-in-Put-clause-items : goal.returns-in-Put-clause-items
returns-in-Put-clause-items c = rw c.in-Put.is (items_in-put _ _ _ _ c.put.ensures.slots)

pub returns-in-Put-clause-ready : goal.returns-in-Put-clause-ready
returns-in-Put-clause-ready c = ready_in-same _ _ c.put.ensures.ready

pub returns-in-Remove-clause-items : goal.returns-in-Remove-clause-items
returns-in-Remove-clause-items c = rw c.in-Remove.is (items_in-remove _ _ _ c.remove.ensures.slots)

pub returns-in-Remove-clause-ready : goal.returns-in-Remove-clause-ready
returns-in-Remove-clause-ready c = ready_in-same _ _ c.remove.ensures.ready

pub returns-in-Touch-clause-items : goal.returns-in-Touch-clause-items
returns-in-Touch-clause-items c = rw c.in-Touch.is (c.touch.ensures.items c.args.update.now.number)
