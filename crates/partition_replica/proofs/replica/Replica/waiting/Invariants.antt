use Rattle.std.proofs.Common.{◌≡◌, ◌++◌}
use Rattle.std.specs.VecDeque.Iter.{deque_iter_rest}
use Rattle.partition_replica.proofs.replica.Replica.waiting.Given as goal

abbrev pub invariant-updates : goal.invariant-updates
invariant-updates l = record {
  steps : (goal.iterator-updates).can_next l.update-iterator × (goal.iterator-updates).is_finite l.update-iterator;
  copied : l.list.items ++ deque_iter_rest l.update-iterator ≡ l.self.replica.log;
}
