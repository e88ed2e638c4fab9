use Rattle.std.specs.VecDeque.Iter.{deque_iter_rest}
use Rattle.partition_replica.proofs.Covered.{Returning}
use Rattle.partition_replica.proofs.returned.returned_from.Given as goal

abbrev pub invariant-updates : goal.invariant-updates
invariant-updates l = record {
  steps : (goal.iterator-updates).can_next l.update-iterator × (goal.iterator-updates).is_finite l.update-iterator;
  returning : Returning l.drops l.stable l.log.updates (deque_iter_rest l.update-iterator) l.at l.most;
}
