use Rattle.ready_places.proofs.Queue.{none}
use Rattle.ready_places.proofs.key_queue.KeyQueue.new.Goals as goal

pub invariant_of-result : goal.invariant_of-result
invariant_of-result c = none _ _ _ c.new.ensures.items c.new-2.ensures.items
